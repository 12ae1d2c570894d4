-- "with a place from 0 to the input's length" (demand 1), for the header's texts; only 9 and 16 refuse, and a refusal leaves the lent
-- output as it was. Assumes nothing.
use Rattle.std.specs.Prelude.{ℕ, ◌≤◌, ◌≡◌, refl, ◌⊎◌, Bool, true, false, List, eqb, length, Option, Some, None}
use Rattle.std.proofs.Common.{sym, ◌∙◌, ap, inl, inr, arith, eqb-true}
use Rattle.common.specs.Pick.{pick}
use Rattle.common.specs.Compare.{clash}
use Rattle.error.specs.Refusal.{Refusal, refusal, Told, good, bad}
use Rattle.table.specs.Table.{header_numbers}
use Rattle.params.specs.Answer.{read_mapped}
use Rattle.params.specs.Reader.{param_of}
use Rattle.params.specs.Skips.{skips_of}
use Rattle.words.specs.declared.Text.{Text}
use Rattle.words.specs.Words.{string_at}
use Rattle.words.specs.Places.{ToldIn, ShownIn, text_in_lem, text_kept}
use Rattle.statement.specs.Rows as statement
use Rattle.lookup.specs.Lookup as rows
use Rattle.headers.specs.Header.{header_args}
use Rattle.file_name_texts.specs.Title.{empty_text, as_title, text_after_skip, title_in, room_skipped, room_in, title_by, room_by}

-- what an answer owes: a text in the file or in the room of m bytes; or 9 or 16 with a place in the file of n bytes, and the room as it was
pub record Owes (n m : ℕ) (o q : List ℕ) (r : Told Text) : Type 0 where
  pub lies : ToldIn n (ShownIn n m) r
  pub number : (f : Refusal) → r ≡ bad f → (f.number ≡ 9) ⊎ (f.number ≡ 16)
  pub kept : (f : Refusal) → r ≡ bad f → q ≡ o

-- a text in the file or in the room is what an answer owes
owes_good : {n m : ℕ} {o q : List ℕ} (x : Text) → ShownIn n m x → Owes n m o q (good x)
owes_good x h = record { lies = h; number = λ f e. clash (cc); kept = λ f e. clash (cc) }

-- a refusal 9 or 16 at a place in the file, with the room as it was, is what an answer owes
owes_bad : {n m : ℕ} {o q : List ℕ} (f : Refusal) → f.place ≤ n → (f.number ≡ 9) ⊎ (f.number ≡ 16) → q ≡ o → Owes n m o q (bad f)
owes_bad f h (inl k) l = record { lies = h; number = λ g e. let z : f ≡ g = cc in inl (sym (ap (λ (x : Refusal). x.number) z) ∙ k); kept = λ g e. l }
owes_bad f h (inr k) l = record { lies = h; number = λ g e. let z : f ≡ g = cc in inr (sym (ap (λ (x : Refusal). x.number) z) ∙ k); kept = λ g e. l }

-- a parameter's text, where 16 alone refuses, is what an answer owes
as_title_lem : {n m : ℕ} {o q : List ℕ} (a : Told Text) → ToldIn n (ShownIn n m) a → ((f : Refusal) → a ≡ bad f → q ≡ o) → Owes n m o q (as_title a)
as_title_lem (good x) h k = owes_good x h
as_title_lem {n} {m} {o} {q} (bad f) h k = go (eqb f.number 16) refl
  where
    go : (t : Bool) → eqb f.number 16 ≡ t → Owes n m o q (pick t (bad f) (good empty_text))
    go true e = owes_bad f h (inr (eqb-true f.number 16 e)) (k f refl)
    go false e = owes_good empty_text (omega arith, omega arith)

-- the text after k parameters of a span is what an answer owes
title_in_lem : (s o : List ℕ) (k p e : ℕ) → Owes (length s) (length o) o (room_in s o k p e) (title_in s (length o) k p e)
unfolding title_in room_in
title_in_lem s o k p e = go (skips_of k s p e).answer
  where
    go : (t : Told (Unit {0})) → Owes (length s) (length o) o (room_skipped s o t (skips_of k s p e).place (skips_of k s p e).end) (text_after_skip s (length o) t (skips_of k s p e).place (skips_of k s p e).end)
    go (good u) =
        let p' = (skips_of k s p e).place in
        let e' = (skips_of k s p e).end in
        as_title_lem (read_mapped (string_at s (length o)) (param_of s p' e')).answer (text_in_lem s o p' e') (text_kept s o p' e')
    go (bad q) = owes_good empty_text (omega arith, omega arith)

-- a header record's arguments are refused with 9 at 0 alone
args_bad : (n : ℕ) (heads : List ℕ) (i : Option ℕ) (f : Refusal) → header_args n (header_numbers heads) i ≡ bad f → f ≡ refusal 9 0 0
args_bad n heads None f h = clash (cc)
args_bad n heads (Some i) f h = go (rows.span_fine n (header_numbers heads i).arg_start (header_numbers heads i).arg_end) h
  where
    go : (t : Bool) → statement.mapped Some (pick t (good (rows.file_span (header_numbers heads i).arg_start (header_numbers heads i).arg_end)) (bad (refusal 9 0 0))) ≡ bad f → f ≡ refusal 9 0 0
    go true k = clash (cc)
    go false k = cc

-- the answers of `file_name` and `originating_system` are what an answer owes
pub title_owes : (s o heads : List ℕ) (k : ℕ) (i : Option ℕ) → Owes (length s) (length o) o (room_by s o k (header_args (length s) (header_numbers heads) i)) (title_by s (length o) k (header_args (length s) (header_numbers heads) i))
title_owes s o heads k i = go (header_args (length s) (header_numbers heads) i) refl
  where
    go : (a : Told (Option rows.FileSpan)) → header_args (length s) (header_numbers heads) i ≡ a → Owes (length s) (length o) o (room_by s o k a) (title_by s (length o) k a)
    go (good None) e = owes_good empty_text (omega arith, omega arith)
    go (good (Some a)) e = title_in_lem s o k a.start a.end
    go (bad f) e = let z = args_bad (length s) heads i f e in rw z (owes_bad (refusal 9 0 0) (omega arith) (inl refl) refl)
