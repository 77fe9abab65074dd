use Rattle.std.proofs.Common.{refl}
use Rattle.ih_parfill.proofs.Least.{scan-looks}
use Rattle.ih_parfill.proofs.scans.ShareScan.look.Goals as goal

pub returns-clause-looked : goal.returns-clause-looked
returns-clause-looked c = λ I v ws x looked is fits. scan-looks v I ws x c.args.self.now _ _ c.requires.own refl is fits c.lower-self.ensures refl refl refl looked
