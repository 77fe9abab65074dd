use Rattle.std.proofs.Common.{◌≡◌, ◌++◌, take}
use Rattle.std.specs.Prelude.{flat_map, string_bytes}
use Rattle.ih_why.specs.Shortages.{dear_line, together_line}
use Rattle.ih_why.proofs.shortages.together_text.Given as goal

abbrev pub invariant-loop-a : goal.invariant-loop-a
invariant-loop-a l = string_bytes l.out ≡ together_line ++ flat_map (dear_line l.inst.draft) (take l.a-index l.list)
