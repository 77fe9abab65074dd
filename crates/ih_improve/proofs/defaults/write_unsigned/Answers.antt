use Rattle.std.proofs.Common.{◌∙◌, ◌<◌, ℕ, List, arith, length, map, pos, sym, unsigned_abs, ℤ}
use Rattle.std.proofs.lemmas.List.{get_or-map, length-map}
use Rattle.std.proofs.lemmas.List.FromFn.{fill_by_all}
use Rattle.ih_tables.specs.Bills.{at}
use Rattle.ih_improve.proofs.defaults.write_unsigned.Goals as goal

pub returns : goal.returns
returns c =
    let zs : List ℤ = c.args.from.now in
    let each = λ (k : ℕ) (less : k < length zs). get_or-map unsigned_abs zs k (pos 0) 0 less in
    fill_by_all (λ k. unsigned_abs (at zs k)) c.loop-k.to (length zs) 0 (c.loop-k.auto.to ∙ c.requires) (λ k less. c.loop-k.invariant.written k (omega arith))
    ∙ sym (fill_by_all (λ k. unsigned_abs (at zs k)) (map unsigned_abs zs) (length zs) 0 (length-map zs unsigned_abs) each)
