use Rattle.std.proofs.Common.{◌∙◌, ap, List, ℕ, map}
use Rattle.std.specs.List.{list_any}
use Rattle.std.specs.Str.{bytes_eq}
use Rattle.ih_improve.proofs.PinLemmas.{among-same, flags-more}
use Rattle.ih_improve.proofs.pins.Pins.of.Goals as goal

pub loop-p-preserved : goal.loop-p-preserved
loop-p-preserved c =
    let ids : List (List ℕ) = map (λ t. t.now) c.args.ids.now in
    flags-more ids c.args.inst.now.draft.patients c.loop-p.p c.patient.result.now c.loop-p.patients.items c.push.new.self.items c.is_among.result c.patient.ensures
    c.loop-p.invariant (c.is_among.ensures ∙ (among-same c.as_str.result.now c.args.ids.now ∙ ap (λ (id : List ℕ). list_any (bytes_eq id) ids) c.as_str.ensures))
    c.in_ok-push.ensures.items
