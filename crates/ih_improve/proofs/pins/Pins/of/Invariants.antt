use Rattle.std.proofs.Common.{◌≡◌, map, take}
use Rattle.ih_improve.proofs.PinLemmas.{flag}
use Rattle.ih_improve.proofs.pins.Pins.of.Given as goal

abbrev pub invariant-loop-p : goal.invariant-loop-p
invariant-loop-p l = l.patients.items ≡ map (flag (map (λ t. t.now) l.ids)) (take l.p l.inst.draft.patients)
