-- What is kept of workers once an entry is added.
use Rattle.std.proofs.Common.{◌≡◌, ℕ, ◌+◌, ◌<◌, ◌≤◌, refl, arith, sym, ap, ◌∙◌, subst, inl, inr, Bool, true, false, List, [], ◌∷◌, ◌++◌, length, Some, None}
use Rattle.std.specs.Prelude.{if◌then◌else◌, slice_get, slice_set, ◌↔◌, Result, Ok, Err, OnOk, OnErr}
use Rattle.std.proofs.lemmas.Bool.{cases_eq}
use Rattle.std.proofs.lemmas.List.{length-set}
use Rattle.ih_tables.specs.declared.drafts.Draft.{Draft}
use Rattle.ih_plan.specs.Draws.{draw_at, move_of, state_after, stream_at}
use Rattle.ih_plan.proofs.Entries.{slice_get-set_other, slice_get-set_same}
use Rattle.ih_plan.proofs.ReadLemmas.{get-more, get-last, get-front}
use Rattle.ih_moves.proofs.Streams.{stream-next}
use Rattle.ih_journal.specs.Tried.{Tried}
use Rattle.ih_journal.specs.declared.settings.Options.{Options}
use Rattle.ih_tables.specs.declared.journal_refusals.Reason.{Reason}
use Rattle.ih_journal.specs.Attempts.{try_after, is_retried, last_by}
use Rattle.ih_journal.specs.Base.{Base}
use Rattle.ih_journal.specs.Legal.{AreLegal, IsLegal}
use Rattle.ih_journal.proofs.Growth.{last_by-other, last_by-own, legal-more, length-more}
use Rattle.ih_cellbook.specs.Offers.{HasSeenOwn}
use Rattle.ih_cellbook.specs.Replicas.{IsReplicaIn, IsReplicaOf}
use Rattle.ih_cellbook.specs.ReplicaState.{ReplicaState}
use Rattle.ih_cellbook.proofs.Within.{stands-behind}
use Rattle.ih_cellbook.proofs.Staying.{new-within}
use Rattle.ih_replay.specs.declared.workers.ReplayWorker.{ReplayWorker}
use Rattle.ih_replay.specs.Keeping.{IsReplayed, IsWorkerIn, gone_on}

-- ---- what a worker must have seen

seen-other : (H : List Tried) (e : Tried) (w n : ℕ) → (e.worker ≡ w → ⊥) → HasSeenOwn H w n ↔ HasSeenOwn (H ++ e ∷ []) w n
seen-other H e w n other = (
  λ seen j f there own. elim (get-more H e f j there) [
    | inl earlier ↦ seen j f earlier.1 own
    | inr last ↦ absurd (other (ap (λ (g : Tried). g.worker) last.1 ∙ own))
  ],
  λ seen j f there own. seen j f (get-front H (e ∷ []) j f there) own,
)

seen-own : (H : List Tried) (e : Tried) (n : ℕ) → (length H + 1 ≤ n) ↔ HasSeenOwn (H ++ e ∷ []) e.worker n
seen-own H e n = (
  λ most j f there own. elim (get-more H e f j there) [
    | inl earlier ↦ (let less = earlier.0 in omega (arith, less, most))
    | inr last ↦ (let here = last.0 in omega (arith, here, most))
  ],
  λ seen. (let last = seen (length H) e (get-last H e) refl in omega (arith, last)),
)

pub seen-none : (w n : ℕ) → (0 ≤ n) ↔ HasSeenOwn [] w n
seen-none w n = (λ h j f there own. absurd (let no : None ≡ Some f = there in cc), λ h. omega arith)

-- ---- one worker

pub worker-none : (b : Base) (w : ℕ) (x : ReplayWorker) → IsReplicaOf b [] x.replica → x.replica.worker ≡ w → x.number ≡ 0 → x.again ≡ 0 → x.own_end ≡ 0
    → x.draw ≡ move_of b.instance b.options.seed w 0 → x.stream ≡ stream_at b.options.seed w 1 → IsWorkerIn b [] w x
unfolding last_by
worker-none b w x stands own number again own_end draw stream = record {
  replica = new-within b [] x.replica stands;
  own = own;
  attempt = rw (number, again) refl;
  draw = rw number draw;
  stream = rw number stream;
  own_end = λ n. rw own_end (seen-none w n);
}

pub worker-other : (b : Base) (H : List Tried) (e : Tried) (w : ℕ) (x : ReplayWorker) → (e.worker ≡ w → ⊥) → IsWorkerIn b H w x → IsWorkerIn b (H ++ e ∷ []) w x
worker-other b H e w x other kept = record {
  replica = stands-behind b H x.replica kept.replica (e ∷ []);
  own = kept.own;
  attempt = rw (last_by-other H e w other) kept.attempt;
  draw = kept.draw;
  stream = kept.stream;
  own_end = λ n. (
    λ most. (seen-other H e w n other).0 ((kept.own_end n).0 most),
    λ seen. (kept.own_end n).1 ((seen-other H e w n other).1 seen),
  );
}

-- another replica that stands in the same history, or in one that is equal
pub worker-moved : (b c : Base) (H G : List Tried) (w : ℕ) (x : ReplayWorker) (s : ReplicaState) → IsWorkerIn b H w x → c ≡ b → G ≡ H → IsReplicaIn c G s → s.worker ≡ w
    → IsWorkerIn c G w (record x { replica = s })
worker-moved b c H G w x s kept base same stands own =
    let y : ReplayWorker = record x { replica = s } in
    let here : IsReplicaIn b H s = subst (λ F. IsReplicaIn b F s) same (subst (λ d. IsReplicaIn d G s) base stands) in
    let moved : IsWorkerIn b H w y = record { replica = here; own = own; attempt = kept.attempt; draw = kept.draw; stream = kept.stream; own_end = kept.own_end } in
    subst (λ d. IsWorkerIn d G w y) (sym base) (subst (λ F. IsWorkerIn b F w y) (sym same) moved)

move-next : (I : Draft) (seed w i : ℕ) (s : List ℕ) → s ≡ stream_at seed w i → draw_at I s ≡ move_of I seed w i
unfolding move_of
move-next I seed w i s e = ap (draw_at I) e

-- the worker whose entry it is goes on to what follows
module _ (b : Base) (H : List Tried) (e : Tried) (x : ReplayWorker) (number : e.number ≡ x.number) (again : e.again ≡ x.again)
    (draw : x.draw ≡ move_of b.instance b.options.seed e.worker x.number) (stream : x.stream ≡ stream_at b.options.seed e.worker (x.number + 1))
    (replica : IsReplicaIn b (H ++ e ∷ []) x.replica) (own : x.replica.worker ≡ e.worker) where
  attempt-gone-on : (t : Bool) → is_retried b.options e ≡ t
      → try_after b.options (Some e) ≡ (let y : ReplayWorker = (if t then record x { again = x.again + 1; own_end = length H + 1 }
      else record x { number = x.number + 1; again = 0; draw = draw_at b.instance x.stream; stream = state_after 6 x.stream; own_end = length H + 1 }) in record { number = y.number; again = y.again })
  attempt-gone-on true on = rw (on, number, again) refl
  attempt-gone-on false off = rw (off, number) refl

  worker-by : (t : Bool) → is_retried b.options e ≡ t
      → IsWorkerIn b (H ++ e ∷ []) e.worker (if t then record x { again = x.again + 1; own_end = length H + 1 }
      else record x { number = x.number + 1; again = 0; draw = draw_at b.instance x.stream; stream = state_after 6 x.stream; own_end = length H + 1 })
  worker-by true on = record {
    replica = replica;
    own = own;
    attempt = ap (try_after b.options) (last_by-own H e e.worker refl) ∙ attempt-gone-on true on;
    draw = draw;
    stream = stream;
    own_end = seen-own H e;
  }
  worker-by false off = record {
    replica = replica;
    own = own;
    attempt = ap (try_after b.options) (last_by-own H e e.worker refl) ∙ attempt-gone-on false off;
    draw = move-next b.instance b.options.seed e.worker (x.number + 1) x.stream stream;
    stream = ap (state_after 6) stream ∙ sym (stream-next b.options.seed e.worker (x.number + 1));
    own_end = seen-own H e;
  }

  pub worker-gone-on : IsWorkerIn b (H ++ e ∷ []) e.worker (gone_on b.instance b.options x e (length H + 1))
  worker-gone-on = worker-by (is_retried b.options e) refl

-- the worker as the code leaves it
pub worker-went : (b c : Base) (H G : List Tried) (e : Tried) (x y : ReplayWorker) (I : Draft) (o : Options) (own_end : ℕ) → c ≡ b → G ≡ H ++ e ∷ [] → e.number ≡ x.number → e.again ≡ x.again
    → x.draw ≡ move_of b.instance b.options.seed e.worker x.number → x.stream ≡ stream_at b.options.seed e.worker (x.number + 1) → IsReplicaIn c G x.replica → x.replica.worker ≡ e.worker
    → I ≡ b.instance → o ≡ b.options → own_end ≡ length G → y ≡ gone_on I o x e own_end → IsWorkerIn c G e.worker y
worker-went b c H G e x y I o own_end base same number again draw stream stands own inst opts at made =
    let here : IsReplicaIn b (H ++ e ∷ []) x.replica = subst (λ F. IsReplicaIn b F x.replica) same (subst (λ d. IsReplicaIn d G x.replica) base stands) in
    let went = worker-gone-on b H e x number again draw stream here own in
    let is : y ≡ gone_on b.instance b.options x e (length H + 1) =
    made ∙ ap (λ J. gone_on J o x e own_end) inst ∙ ap (λ p. gone_on b.instance p x e own_end) opts ∙ ap (gone_on b.instance b.options x e) (at ∙ ap length same ∙ length-more H e) in
    subst (λ d. IsWorkerIn d G e.worker y) (sym base) (subst (λ F. IsWorkerIn b F e.worker y) (sym same) (subst (IsWorkerIn b (H ++ e ∷ []) e.worker) (sym is) went))

-- ---- all workers

-- the workers of a search that has no entry yet, one more of them
pub workers-more : (b : Base) (xs : List ReplayWorker) (w : ℕ) (y : ReplayWorker) → length xs ≡ w → ((v : ℕ) (x : ReplayWorker) → slice_get xs v ≡ Some x → IsWorkerIn b [] v x) → IsWorkerIn b [] w y
    → (v : ℕ) (x : ReplayWorker) → slice_get (xs ++ y ∷ []) v ≡ Some x → IsWorkerIn b [] v x
workers-more b xs w y len before own v x there = elim (get-more xs y x v there) [
  | inl earlier ↦ before v x earlier.1
  | inr last ↦ subst (λ u. IsWorkerIn b [] u x) (sym (last.0 ∙ len)) (subst (IsWorkerIn b [] w) last.1 own)
]

-- one worker is replaced, and each other stays in the longer history
replayed-set : (b : Base) (H G : List Tried) (xs : List ReplayWorker) (v : ℕ) (y : ReplayWorker) → IsReplayed b H xs → v < b.options.workers → AreLegal b 1 G
    → ((w : ℕ) (x : ReplayWorker) → (v ≡ w → ⊥) → IsWorkerIn b H w x → IsWorkerIn b G w x) → IsWorkerIn b G v y → IsReplayed b G (slice_set xs v y)
replayed-set b H G xs v y kept known legal others own = record {
  base = kept.base;
  legal = legal;
  many = length-set xs v y ∙ kept.many;
  each = λ w x there. elim (cases_eq w v) [
    | inl same ↦
        let many = kept.many in
        let here : Some y ≡ Some x = sym (slice_get-set_same xs v y (omega (arith, many, known))) ∙ ap (slice_get (slice_set xs v y)) (sym same) ∙ there in
        let is : y ≡ x = cc in
        subst (λ u. IsWorkerIn b G u x) (sym same) (subst (IsWorkerIn b G v) is own)
    | inr other ↦ others w x (λ is. other (sym is)) (kept.each w x (sym (slice_get-set_other xs v w y other) ∙ there))
  ];
}

-- the worker's entry was added, or nothing was
pub replayed-by : (b c : Base) (H G : List Tried) (xs : List ReplayWorker) (e : Tried) (y : ReplayWorker) (result : Result (Unit {0}) Reason) → IsReplayed b H xs → e.worker < b.options.workers → c ≡ b
    → IsWorkerIn c G e.worker y → OnOk result (IsLegal b 1 H e) → OnOk result (G ≡ H ++ e ∷ []) → OnErr result (G ≡ H) → IsReplayed c G (slice_set xs e.worker y)
replayed-by b c H G xs e y (Ok done) kept known base own legal added same =
    let ys = slice_set xs e.worker y in
    let here : IsWorkerIn b (H ++ e ∷ []) e.worker y = subst (λ F. IsWorkerIn b F e.worker y) added (subst (λ d. IsWorkerIn d G e.worker y) base own) in
    let all = replayed-set b H (H ++ e ∷ []) xs e.worker y kept known (legal-more b 1 H e kept.legal legal) (λ w x other one. worker-other b H e w x other one) here in
    subst (λ d. IsReplayed d G ys) (sym base) (subst (λ F. IsReplayed b F ys) (sym added) all)
replayed-by b c H G xs e y (Err reason) kept known base own legal added same =
    let ys = slice_set xs e.worker y in
    let here : IsWorkerIn b H e.worker y = subst (λ F. IsWorkerIn b F e.worker y) same (subst (λ d. IsWorkerIn d G e.worker y) base own) in
    let all = replayed-set b H H xs e.worker y kept known kept.legal (λ w x other one. one) here in
    subst (λ d. IsReplayed d G ys) (sym base) (subst (λ F. IsReplayed b F ys) (sym same) all)
