use Rattle.std.proofs.Common.{◌∙◌, sym, ap, subst, refl, [], ◌∷◌, length}
use Rattle.std.proofs.lemmas.List.{length-map}
use Rattle.ih_journal.specs.declared.settings.Options.{Options}
use Rattle.ih_tables.specs.declared.journal_refusals.Reason.TheVariants.{Grammar, Place}
use Rattle.ih_journal.specs.Grammar.{IsLineOf}
use Rattle.ih_journal.specs.Tried.{tried}
use Rattle.ih_replay.proofs.taking.read.Goals as goal

pub returns-in-Err-clause-err : goal.returns-in-Err-clause-err
returns-in-Err-clause-err c = record {
  earlier = [];
  later = Place ∷ [];
  listed = refl;
  passed = tt;
  fails = λ one.
      let of = subst (λ (o : Options). IsLineOf c.args.inst.now.draft o one.0 one.1 c.args.line.now) (sym c.requires.options)
      (subst (λ I. IsLineOf I c.args.book.now.base.options one.0 one.1 c.args.line.now) (sym c.requires.instance) one.2) in
      absurd (let no = c.in-Err.ensures.only one.0 one.1 of in cc);
}

pub returns-in-Ok-2-clause-err : goal.returns-in-Ok-2-clause-err
returns-in-Ok-2-clause-err c =
    let of = subst (λ (o : Options). IsLineOf c.args.book.now.base.instance o c.in-Ok.place c.in-Ok.entry c.args.line.now) c.requires.options
    (subst (λ I. IsLineOf I c.args.options.now c.in-Ok.place c.in-Ok.entry c.args.line.now) c.requires.instance c.in-Ok.ensures.ok) in
    record {
      earlier = Grammar ∷ [];
      later = [];
      listed = refl;
      passed = ((c.in-Ok.place, c.in-Ok.entry, of), tt);
      fails = λ all. let here = all c.in-Ok.place c.in-Ok.entry of in c.if-place-entries.false (here ∙ (sym (ap length c.entries.ensures.entries) ∙ length-map c.entries.result.now tried));
    }
