-- What entries of chains stand for tells the entries.
use Rattle.std.proofs.Common.{◌≡◌, ℕ, refl, ap, List}
use Rattle.ih_tables.specs.declared.bills.Bill.{Bill}
use Rattle.ih_plan.specs.declared.moves.Move.{Move}
use Rattle.ih_journal.specs.declared.entries.Verdict.{Verdict}
use Rattle.ih_journal.specs.Tried.{Tried}
use Rattle.ih_journal.proofs.Mapped.{map-injective}
use Rattle.ih_chain.specs.declared.entries.ChainEntry.{ChainEntry}
use Rattle.ih_chain.specs.Entries.{chain_tried, chain_tries}

pub same-entry : (e f : ChainEntry) → e.worker ≡ f.worker → e.number ≡ f.number → e.seen ≡ f.seen → e.moves ≡ f.moves → e.price ≡ f.price
    → e.verdict ≡ f.verdict → e ≡ f
same-entry e f worker number seen moves price verdict =
    ap (λ (t : ℕ × ℕ × ℕ × List Move × Bill × Verdict).
    let x : ChainEntry = record { worker = t.0; number = t.1; seen = t.2; moves = t.3; price = t.4; verdict = t.5 } in x)
    (let all : (e.worker, e.number, e.seen, e.moves, e.price, e.verdict) ≡ (f.worker, f.number, f.seen, f.moves, f.price, f.verdict) =
    rw (worker, number, seen, moves, price, verdict) refl in all)

tried-one : (e f : ChainEntry) → chain_tried e ≡ chain_tried f → e ≡ f
tried-one e f h =
    same-entry e f (ap (λ (t : Tried). t.worker) h) (ap (λ (t : Tried). t.number) h) (ap (λ (t : Tried). t.seen) h)
    (ap (λ (t : Tried). t.moves) h) (ap (λ (t : Tried). t.price) h) (ap (λ (t : Tried). t.verdict) h)

pub chain_tries-one : (H G : List ChainEntry) → chain_tries H ≡ chain_tries G → H ≡ G
chain_tries-one H G h = map-injective chain_tried (λ _. Unit {0}) H G (λ e f _ _. tried-one e f) (λ k d lt. tt) (λ k d lt. tt) h
