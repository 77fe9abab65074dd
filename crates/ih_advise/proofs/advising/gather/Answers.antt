use Rattle.std.proofs.Common.{◌∙◌, sym, ap, [], ◌++◌}
use Rattle.std.specs.Prelude.{filter_map}
use Rattle.std.specs.List.{cons_option, range_with_len}
use Rattle.ih_advise.specs.Dealing.{found_of}
use Rattle.ih_advise.proofs.Places.{found-more}
use Rattle.ih_advise.proofs.advising.gather.Goals as goal

pub loop-number-preserved : goal.loop-number-preserved
loop-number-preserved c =
    let f = found_of c.args.findings.now in
    let n = c.loop-number.number in
    c.in_ok-push_found.ensures
    ∙ (ap (λ xs. xs ++ cons_option c.found_of.result []) c.loop-number.invariant
    ∙ (ap (λ o. filter_map f (range_with_len 0 n) ++ cons_option o []) c.found_of.ensures ∙ sym (found-more f n)))
