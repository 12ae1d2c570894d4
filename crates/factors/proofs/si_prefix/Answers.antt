use Rattle.std.proofs.Common.{◌∙◌, ap, sym, ℕ, List, Some}
use Rattle.record.specs.Word.{is_word}
use Rattle.factors.specs.Laws.{names_in, prefix_other, prefix_named}
use Rattle.factors.proofs.si_prefix.Goals as goal

pub name_or-requires : goal.name_or-requires
name_or-requires c = names_in _ _ _ _ _ c.next_enum-unit.ensures

pub returns-then-not-is_word : goal.returns-then-not-is_word
returns-then-not-is_word c =
    let h = sym (c.is_word.ensures ∙ ap (λ (x : List ℕ). is_word x c.args.name.now) c.name_or.ensures) ∙ c.if-not-is_word.true in
    prefix_other c.args.file.now c.args.args.start c.args.args.end c.args.name.now c.next_enum-prefix.result c.next_enum-unit.result c.reader-at.result c.next_enum-prefix.new.at c.next_enum-unit.new.at c.reader-at.ensures c.next_enum-prefix.ensures c.next_enum-unit.ensures h

pub name_or-requires-2 : goal.name_or-requires-2
name_or-requires-2 c = names_in _ _ _ _ _ c.next_enum-prefix.ensures

pub returns : goal.returns
returns c =
    let h = sym (c.is_word.ensures ∙ ap (λ (x : List ℕ). is_word x c.args.name.now) c.name_or.ensures) ∙ c.if-not-is_word.false in
    ap Some c.name_or-2.ensures
    ∙ prefix_named c.args.file.now c.args.args.start c.args.args.end c.args.name.now c.next_enum-prefix.result c.next_enum-unit.result c.reader-at.result c.next_enum-prefix.new.at c.next_enum-unit.new.at c.reader-at.ensures c.next_enum-prefix.ensures c.next_enum-unit.ensures h
