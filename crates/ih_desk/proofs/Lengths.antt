-- Workers whose attempts have this many moves.
use Rattle.std.proofs.Common.{ℕ, subst, sym}
use Rattle.ih_desk.specs.Desks.{Desk}
use Rattle.ih_desk.specs.Workers.{Finishes, HasWorked, IsReady, MayWork, Worker}

pub may-work : (each : ℕ) (desk : Desk) (w : Worker) → IsReady each desk w → MayWork desk w
may-work each desk w ready = subst (λ e. IsReady e desk w) (sym ready.new.worker_loop.own.each_is) ready

pub has-finished : (each : ℕ) (desk : Desk) (w v : Worker) → IsReady each desk w → HasWorked desk w v → Finishes each desk w v
has-finished each desk w v ready worked = subst (λ e. Finishes e desk w v) ready.new.worker_loop.own.each_is worked
