use Rattle.std.proofs.Common.{◌≡◌, ℕ, ◌+◌, ◌-◌, ◌<◌, List, [], get_or, refl, ◌∙◌, ap, arith}
use Rattle.pages.specs.declared.tables.TheConstants.{PAGES}
use Rattle.pages.specs.Tables.{pages, latin1, latin2, latin3, latin4, cyrillic, arabic, greek, hebrew, latin5, page_entry}
use Rattle.pages.specs.Right.{code_first, code_same, code_listed, entry_none, entry_listed}
use Rattle.pages.proofs.code_on.Goals as goal

-- the code's tables are the pages
held : PAGES ≡ pages
unfolding pages latin1 latin2 latin3 latin4 cyrillic arabic greek hebrew latin5
held = refl

-- a character read from the code's tables, at the page's number, is the page's
listed : (p k r : ℕ) {j : ℕ} → r ≡ get_or (get_or PAGES j []) k 0 → j ≡ p → p < 9 → k < 96 → r ≡ page_entry p (0xA0 + k)
listed p k r {j} e q h l =
    e
    ∙ ap (λ (t : List (List ℕ)). get_or (get_or t j []) k 0) held
    ∙ ap (λ (i : ℕ). get_or (get_or pages i []) k 0) q
    ∙ entry_listed p k h l

pub returns-then-page-eq0 : goal.returns-then-page-eq0
returns-then-page-eq0 c = code_first c.args.page c.args.sum (omega arith)

pub returns-then-sum : goal.returns-then-sum
returns-then-sum c = let a = c.args in code_same a.page a.sum c.if-sum.true

pub returns-then-page-ge9 : goal.returns-then-page-ge9
returns-then-page-ge9 c = let a = c.args in (code_listed a.page a.sum c.if-sum.false).1 _ (entry_none a.page _ (omega arith))

pub returns : goal.returns
returns c =
    let a = c.args in
    let q = code_listed a.page a.sum c.if-sum.false in
    q.1 c.from.result (listed a.page (a.sum - 160) c.from.result c.from.ensures (omega arith) (omega arith) (omega (arith, q.0)))
