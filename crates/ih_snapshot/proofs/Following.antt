-- A replica that takes over accepted entries alone: the refused ones between them move its place, and change nothing
-- else.
use Rattle.std.proofs.Common.{◌≡◌, ℕ, zero, ◌+◌, ◌<◌, ◌≤◌, arith, add-one, refl, sym, ◌∙◌, subst, Bool, true, false, List, [], ◌∷◌, ◌++◌, length, append_assoc, drop, drop-cons}
use Rattle.std.specs.Prelude.{slice_index_or}
use Rattle.std.proofs.lemmas.List.{append-nil}
use Rattle.ih_journal.specs.Tried.{Tried}
use Rattle.ih_journal.specs.Base.{Base}
use Rattle.ih_journal.specs.History.{is_accepted}
use Rattle.ih_journal.specs.Legal.{IsLegalButDraw}
use Rattle.ih_journal.proofs.Growth.{length-more}
use Rattle.ih_cellbook.specs.Legal.{AreLegalButDraws}
use Rattle.ih_cellbook.specs.Replicas.{IsReplicaOf}
use Rattle.ih_cellbook.specs.ReplicaState.{ReplicaState}
use Rattle.ih_cellbook.specs.News.{accepted_of}
use Rattle.ih_snapshot.specs.Keeping.{CanTake, HasTaken}
use Rattle.ih_snapshot.proofs.Advancing.{can-take, legal-next, stands-more}

-- The replica stands for H but for its place, which isn't past the end.
pub record StandsButPlace (b : Base) (H : List Tried) (r : ReplicaState) : Type 0 where
  pub place : r.seen ≤ length H
  pub whole : IsReplicaOf b H (record r { seen = length H })

-- It has come through a front of the history G, and these are the accepted entries behind that.
pub record HasCome (b : Base) (G left : List Tried) (r : ReplicaState) : Type 0 where
  pub front : List Tried
  pub behind : List Tried
  pub parts : front ++ behind ≡ G
  pub accepted : accepted_of behind ≡ left
  pub stands : StandsButPlace b front r

-- It has come up to the entry e of G, behind which these were accepted.
record HasMet (b : Base) (G : List Tried) (e : Tried) (left : List Tried) (r : ReplicaState) : Type 0 where
  front : List Tried
  behind : List Tried
  parts : front ++ e ∷ behind ≡ G
  accepted : accepted_of behind ≡ left
  stands : StandsButPlace b front r

-- ---- one entry

-- what an entry does to a replica does not hang on the place
taken-anywhere : (r s : ReplicaState) (e : Tried) (n : ℕ) → HasTaken r e s → HasTaken (record r { seen = n }) e (record s { seen = n + 1 })
taken-anywhere r s e n taken = record {
  base = taken.base;
  worker = taken.worker;
  last = taken.last;
  seen = refl;
  plan = taken.plan;
  len = taken.len;
  each = taken.each;
}

refused-taken : (r : ReplicaState) (e : Tried) (n : ℕ) → is_accepted e.verdict ≡ false → HasTaken (record r { seen = n }) e (record r { seen = n + 1 })
refused-taken r e n off = record {
  base = refl;
  worker = refl;
  last = refl;
  seen = refl;
  plan = rw off refl;
  len = refl;
  each = λ k h. rw off (omega arith);
}

module _ (b : Base) (H : List Tried) (r : ReplicaState) (e : Tried) (stands : StandsButPlace b H r) (legal : IsLegalButDraw b H e) where
  can-here : CanTake r e
  can-here =
      let can = can-take b H (record r { seen = length H }) e stands.whole legal in
      let few = can.seen in
      let place = stands.place in
      record { move = can.move; seen = omega (arith, few, place); small = can.small; own = can.own }

  one-more : (s : ReplicaState) → s.seen ≤ length H + 1 → HasTaken (record r { seen = length H }) e (record s { seen = length H + 1 }) → StandsButPlace b (H ++ e ∷ []) s
  one-more s place taken =
      let len = length-more H e in
      record {
        place = omega (arith, len, place);
        whole = subst (λ n. IsReplicaOf b (H ++ e ∷ []) (record s { seen = n })) (sym len)
            (stands-more b H (record r { seen = length H }) e (record s { seen = length H + 1 }) stands.whole legal taken);
      }

  refused-more : is_accepted e.verdict ≡ false → StandsButPlace b (H ++ e ∷ []) r
  refused-more off = let place = stands.place in one-more r (omega (arith, place)) (refused-taken r e (length H) off)

  taken-more : (s : ReplicaState) → HasTaken r e s → StandsButPlace b (H ++ e ∷ []) s
  taken-more s taken =
      let place = stands.place in
      let next = taken.seen in
      one-more s (omega (arith, place, next)) (taken-anywhere r s e (length H) taken)

-- ---- entries of a legal history

module _ (b : Base) (G : List Tried) (legal : AreLegalButDraws b G) where
  legal-here : (H : List Tried) (e : Tried) (es : List Tried) → H ++ e ∷ es ≡ G → IsLegalButDraw b H e
  legal-here H e es parts =
      subst (λ F. IsLegalButDraw b F e) (append-nil H) (legal-next b H (e ∷ es) zero e (subst (AreLegalButDraws b) (sym parts) legal) refl)

  next-parts : (H : List Tried) (e : Tried) (es : List Tried) → H ++ e ∷ es ≡ G → (H ++ e ∷ []) ++ es ≡ G
  next-parts H e es parts = append_assoc H (e ∷ []) es ∙ parts

  -- through refused entries up to the next accepted one
  meet : (H es : List Tried) (e : Tried) (left : List Tried) (r : ReplicaState) → H ++ es ≡ G → accepted_of es ≡ e ∷ left → StandsButPlace b H r → HasMet b G e left r
  meet H [] e left r parts is stands = absurd (let no : [] ≡ e ∷ left = is in cc)
  meet H (x ∷ xs) e left r parts is stands = by_case (is_accepted x.verdict) refl (λ F. meet F xs e left r)
    where
      by_case : (t : Bool) → is_accepted x.verdict ≡ t
          → ((F : List Tried) → F ++ xs ≡ G → accepted_of xs ≡ e ∷ left → StandsButPlace b F r → HasMet b G e left r) → HasMet b G e left r
      by_case true on further =
          let both : x ∷ accepted_of xs ≡ e ∷ left = rw on at is in
          let same : x ≡ e = cc in
          let rest : accepted_of xs ≡ left = cc in
          record { front = H; behind = xs; parts = subst (λ (y : Tried). H ++ y ∷ xs ≡ G) same parts; accepted = rest; stands = stands }
      by_case false off further =
          let rest : accepted_of xs ≡ e ∷ left = rw off at is in
          further (H ++ x ∷ []) (next-parts H x xs parts) rest (refused-more b H r x stands (legal-here H x xs parts) off)

  -- through refused entries up to the end
  past : (H es : List Tried) (r : ReplicaState) → H ++ es ≡ G → accepted_of es ≡ [] → StandsButPlace b H r → StandsButPlace b G r
  past H [] r parts is stands = subst (λ F. StandsButPlace b F r) (sym (append-nil H) ∙ parts) stands
  past H (x ∷ xs) r parts is stands = by_case (is_accepted x.verdict) refl (λ F. past F xs r)
    where
      by_case : (t : Bool) → is_accepted x.verdict ≡ t
          → ((F : List Tried) → F ++ xs ≡ G → accepted_of xs ≡ [] → StandsButPlace b F r → StandsButPlace b G r) → StandsButPlace b G r
      by_case true on further = absurd (let no : x ∷ accepted_of xs ≡ [] = rw on at is in cc)
      by_case false off further =
          let rest : accepted_of xs ≡ [] = rw off at is in
          further (H ++ x ∷ []) (next-parts H x xs parts) rest (refused-more b H r x stands (legal-here H x xs parts) off)

  -- ---- the accepted ones, one by one

  module _ (es : List Tried) (k : ℕ) (d : Tried) (r : ReplicaState) (come : HasCome b G (drop k es) r) (h : k < length es) where
    met : HasMet b G (slice_index_or es k d) (drop (k + 1) es) r
    met = meet come.front come.behind (slice_index_or es k d) (drop (k + 1) es) r come.parts (come.accepted ∙ rw (add-one) (drop-cons es k d h)) come.stands

    met-legal : IsLegalButDraw b met.front (slice_index_or es k d)
    met-legal = legal-here met.front (slice_index_or es k d) met.behind met.parts

    pub come-can : CanTake r (slice_index_or es k d)
    come-can = can-here b met.front r (slice_index_or es k d) met.stands met-legal

    pub come-more : (s : ReplicaState) → HasTaken r (slice_index_or es k d) s → HasCome b G (drop (k + 1) es) s
    come-more s taken = record {
      front = met.front ++ slice_index_or es k d ∷ [];
      behind = met.behind;
      parts = next-parts met.front (slice_index_or es k d) met.behind met.parts;
      accepted = met.accepted;
      stands = taken-more b met.front r (slice_index_or es k d) met.stands met-legal s taken;
    }

  -- none is left
  pub come-all : (r : ReplicaState) → HasCome b G [] r → IsReplicaOf b G (record r { seen = length G })
  come-all r come = (past come.front come.behind r come.parts come.accepted come.stands).whole

-- none was taken over
pub come-none : (b : Base) (H es accepted : List Tried) (r : ReplicaState) → IsReplicaOf b H r → accepted ≡ accepted_of es → HasCome b (H ++ es) accepted r
come-none b H es accepted r stands are = record {
  front = H;
  behind = es;
  parts = refl;
  accepted = sym are;
  stands = record {
    place = (let seen = stands.seen in omega (arith, seen));
    whole = subst (λ n. IsReplicaOf b H (record r { seen = n })) stands.seen stands;
  };
}
