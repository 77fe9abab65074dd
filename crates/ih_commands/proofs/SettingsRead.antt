-- The settings that the words of improve give.
use Rattle.std.proofs.Common.{◌≡◌, ◌≤◌, ℕ, sym, subst, arith, Bool, true, false, List, Option, Some, None}
use Rattle.std.specs.Prelude.{IfSome, if◌then◌else◌, unwrap_or, codes}
use Rattle.ih_commands.specs.Below.Wards.{MAX_HARD, MAX_HEAT, MAX_WORKERS}
use Rattle.ih_commands.specs.Below.Arguments.{IsNumberIfGiven, Row, number_if_given, takes_a_file}
use Rattle.ih_commands.specs.Below.Searches.{MAX_KEEP}
use Rattle.ih_arguments.proofs.Getters.{number_if_given-within}
use Rattle.ih_commands.specs.Calls.Improve.{HasImprove, default_rounds, improve_in, keep_in, length_in}
use Rattle.ih_optimizer.specs.Call.{ImproveCall, IsLawfulCall}
use Rattle.ih_optimizer.specs.Pacing.{attempts_of}
use Rattle.ih_commands.specs.declared.command.common.TheConstants.{DEFAULT_WORKERS}
use Rattle.ih_optimizer.specs.declared.pacing.Length.{Length}
use Rattle.ih_optimizer.specs.declared.pacing.Length.TheVariants.{Attempts, Seconds}
use Rattle.ih_optimizer.specs.declared.pacing.TheConstants.{MAX_CALL_ATTEMPTS, MAX_CALL_ROUNDS}

pub default-within : (low high d : ℕ) (o : Option ℕ) → low ≤ d → d ≤ high → IfSome o (λ n. (low ≤ n) × (n ≤ high))
    → (low ≤ unwrap_or o d) × (unwrap_or o d ≤ high)
default-within low high d None least most h = (least, most)
default-within low high d (Some n) least most h = h

-- the workers of a call that looks at patients
pub workers-within : (rows : List Row) → IsNumberIfGiven 1 MAX_WORKERS (codes "workers") rows
    → unwrap_or (number_if_given (codes "workers") rows) DEFAULT_WORKERS ≤ MAX_WORKERS
workers-within rows has =
    (default-within 1 MAX_WORKERS DEFAULT_WORKERS (number_if_given (codes "workers") rows) (omega arith) (omega arith)
    (number_if_given-within 1 MAX_WORKERS (codes "workers") rows has)).1

-- there are as many rounds as may be where no number is given
rounds-within : (l : Length) → (1 ≤ default_rounds l) × (default_rounds l ≤ MAX_CALL_ROUNDS)
rounds-within (Attempts n) = (omega arith, omega arith)
rounds-within (Seconds s) = (omega arith, omega arith)

-- the attempts are so few, and the temperature doesn't rise
abbrev pub AreFew : ImproveCall → Type 0
AreFew c = (attempts_of c.pace.length ≤ MAX_CALL_ATTEMPTS) × (unwrap_or c.settings.cold 0 ≤ unwrap_or c.settings.hot MAX_HEAT)

-- what a change weighs is within its limits
keep-within : (rows : List Row) → IsNumberIfGiven 0 MAX_KEEP (codes "keep") rows → unwrap_or (keep_in rows) 0 ≤ MAX_KEEP
keep-within rows has = by_case (takes_a_file rows)
  where
    by_case : (b : Bool) → unwrap_or (if b then number_if_given (codes "keep") rows else Some 0) 0 ≤ MAX_KEEP
    by_case true =
        (default-within 0 MAX_KEEP 0 (number_if_given (codes "keep") rows) (omega arith) (omega arith)
        (number_if_given-within 0 MAX_KEEP (codes "keep") rows has)).1
    by_case false = omega arith

-- the other limits are those of clap's rules
pub settings-lawful : (rows : List Row) → HasImprove rows → AreFew (improve_in rows) → IsLawfulCall (improve_in rows)
settings-lawful rows has few =
    let workers = default-within 1 MAX_WORKERS MAX_WORKERS (number_if_given (codes "workers") rows) (omega arith) (omega arith)
    (number_if_given-within 1 MAX_WORKERS (codes "workers") rows has.workers) in
    let usual = rounds-within (length_in rows) in
    let rounds = default-within 1 MAX_CALL_ROUNDS (default_rounds (length_in rows)) (number_if_given (codes "rounds") rows) usual.0 usual.1
    (number_if_given-within 1 MAX_CALL_ROUNDS (codes "rounds") rows has.rounds) in
    let hot = default-within 0 MAX_HEAT MAX_HEAT (number_if_given (codes "hot") rows) (omega arith) (omega arith)
    (number_if_given-within 0 MAX_HEAT (codes "hot") rows has.hot) in
    let hard = default-within 0 MAX_HARD MAX_HARD (number_if_given (codes "hard") rows) (omega arith) (omega arith)
    (number_if_given-within 0 MAX_HARD (codes "hard") rows has.hard) in
    record {
      settings = record { some_worker = workers.0; workers = workers.1; hot = hot.1; cold = few.1; hard = hard.1; keep = keep-within rows has.keep };
      pace = record { some = rounds.0; rounds = rounds.1; attempts = few.0 };
    }

-- ---- the call that clap's matches give

pub call-lawful : (rows : List Row) → HasImprove rows → (c : ImproveCall) → c ≡ improve_in rows → AreFew c → IsLawfulCall c
call-lawful rows has c is = subst (λ (x : ImproveCall). AreFew x → IsLawfulCall x) (sym is) (settings-lawful rows has)
