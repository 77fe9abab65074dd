-- What a ledger stands for after a patient enters or leaves.
use Rattle.std.proofs.Common.{◌≡◌, ℕ, ◌+◌, ◌<◌, ◌≤◌, refl, arith, ap, sym, subst, ◌∙◌, Bool, true, false, List, Option, Some, None}
use Rattle.std.specs.Prelude.{◌&&◌, ◌||◌, ◌==◌, not, option_map, IfSome}
use Rattle.std.proofs.lemmas.Bool.{and_parts, eq-eqb, eqb-true}
use Rattle.ih_tables.specs.declared.drafts.Draft.{Draft}
use Rattle.ih_tables.specs.declared.ids.NurseNo.{NurseNo}
use Rattle.ih_tables.specs.declared.ids.PatientNo.{PatientNo}
use Rattle.ih_tables.specs.Sizes.{patient_count, room_count, nurse_count, shift_count}
use Rattle.ih_links.specs.Lists.{LinksState}
use Rattle.ih_plan.specs.declared.moves.Placement.{Placement}
use Rattle.ih_plan.specs.declared.moves.Write.{Write}
use Rattle.ih_plan.specs.declared.moves.Write.TheVariants.{SetStay}
use Rattle.ih_plan.specs.Timetable.{Timetable, IsPlanOf, IsPlacement, stay_of, care_of, choice_of}
use Rattle.ih_plan.specs.Writes.{put}
use Rattle.ih_plan.specs.Persons.{person_of}
use Rattle.ih_plan.specs.Presence.{is_present, covers, in_span, end_of}
use Rattle.ih_plan.proofs.Entries.{stay_of-other, stay_of-same}
use Rattle.ih_tables.specs.Valid.{IsValid}
use Rattle.ih_plan.proofs.Spans.{span-inside, span-covers}
use Rattle.ih_plan.proofs.Whereabouts.{nowhere, somewhere}
use Rattle.ih_nurses.specs.Ledger.{IsTied}
use Rattle.ih_nurses.specs.declared.loads.NurseLoad.{NurseLoad}
use Rattle.ih_nurses.specs.Here.{AreSized, AreHere, is_here}
use Rattle.ih_nurses.specs.Loads.{IsTable, AreLoads, load_at, stay_load}
use Rattle.ih_nurses.specs.Counts.{AreCounts, count_at}
use Rattle.ih_nurses.proofs.CountLemmas.{count-none}
use Rattle.ih_nurses.proofs.AdmitLemmas.{IsAdmission, present-more, load-more, load-most}

pub admits : (I : Draft) (P : Timetable) (p : PatientNo) (at : Placement) → IsPlanOf I P → p.0 < patient_count I → IsPlacement I at → stay_of P p.0 ≡ None
    → IsAdmission I P (put (SetStay p (Some at)) P) p.0 at
admits I P p at plan patient placed free = record {
  patient = patient;
  placed = placed;
  before = free;
  after = stay_of-same P p (Some at) (let sizes = plan.stays in omega arith);
  others = λ x ne. stay_of-other P p (Some at) x ne;
  cares = λ r k. refl;
}

pub leaves : (I : Draft) (P : Timetable) (p : PatientNo) (at : Placement) → IsPlanOf I P → p.0 < patient_count I → IsPlacement I at → stay_of P p.0 ≡ Some at
    → IsAdmission I (put (SetStay p None) P) P p.0 at
leaves I P p at plan patient placed there = record {
  patient = patient;
  placed = placed;
  before = stay_of-same P p None (let sizes = plan.stays in omega arith);
  after = there;
  others = λ x ne. sym (stay_of-other P p None x ne);
  cares = λ r k. refl;
}

-- out of b || s a list without s is b, where b and s don't meet
without-own : (b s m : Bool) → (m ≡ true → b ≡ false) → ((b || (s && m)) && not m) ≡ b
without-own true s true e = absurd (let no : true ≡ false = e refl in cc)
without-own true s false e = refl
without-own false true true e = refl
without-own false true false e = refl
without-own false false m e = refl

module _ {I : Draft} {P Q : Timetable} {p : ℕ} {at : Placement} (a : IsAdmission I P Q p at) where
  pub here-entered : (old new : List LinksState) → AreHere I P old → AreSized I new
      → ((s e y : ℕ) → is_here new s e y ≡ (is_here old s e y || ((at.room.0 == s) && (in_span at.day.0 (end_of I p at) e && (p == y)))))
      → AreHere I Q new
  here-entered old new known sized each = record {
    sized = sized;
    each = λ r d x rh dh xh.
        each r d x ∙ rw (known.each r d x rh dh xh, span-covers at.day.0 (person_of I p).length_of_stay I.days d dh) (sym (present-more a r d x));
  }

  pub loads-added : (old new : List NurseLoad) → AreLoads I P old → IsTable I new
      → ((m j : ℕ) → m < nurse_count I → j < shift_count I → load_at I new m j ≡ load_at I old m j + stay_load I P p at m j) → AreLoads I Q new
  loads-added old new known table each = record {
    table = table;
    each = λ n k nh kh. each n k nh kh ∙ rw (known.each n k nh kh) (sym (load-more a n k));
  }

  pub here-left : (old new : List LinksState) → AreHere I Q old → AreSized I new
      → ((s e y : ℕ) → is_here new s e y ≡ (is_here old s e y && not (in_span at.day.0 (end_of I p at) e && (p == y))))
      → AreHere I P new
  here-left old new known sized each = record {
    sized = sized;
    each = λ r d x rh dh xh.
        each r d x ∙ rw (known.each r d x rh dh xh, span-covers at.day.0 (person_of I p).length_of_stay I.days d dh, present-more a r d x)
        (without-own (is_present I P r d x) (at.room.0 == r) (covers at.day.0 (person_of I p).length_of_stay d && (p == x))
        (λ both. let same : p ≡ x = eqb-true p x (and_parts (covers at.day.0 (person_of I p).length_of_stay d) (p == x) both).1 in rw (← same) (nowhere I P p r d a.patient a.before)));
  }

  pub loads-taken : (old new : List NurseLoad) → AreLoads I Q old → IsTable I new
      → ((m j : ℕ) → m < nurse_count I → j < shift_count I → load_at I new m j + stay_load I P p at m j ≡ load_at I old m j) → AreLoads I P new
  loads-taken old new known table each = record {
    table = table;
    each = λ n k nh kh.
        let step = each n k nh kh in
        let before = known.each n k nh kh in
        let more = load-more a n k in
        omega arith;
  }

  -- the stay is in the loads
  pub loads-enough : (old : List NurseLoad) → AreLoads I Q old → (m j : ℕ) → m < nurse_count I → j < shift_count I → stay_load I P p at m j ≤ load_at I old m j
  loads-enough old known m j mh jh =
      let before = known.each m j mh jh in
      let more = load-more a m j in
      omega arith

  -- on the days of the stay the patient is in the room
  pub here-there : (old : List LinksState) → AreHere I Q old → (e : ℕ) → in_span at.day.0 (end_of I p at) e ≡ true → is_here old at.room.0 e p ≡ true
  here-there old known e h =
      let inside = span-inside at.day.0 (end_of I p at) e h in
      let day : e < I.days = omega arith in
      let patient = a.patient in
      let covered = sym (span-covers at.day.0 (person_of I p).length_of_stay I.days e day) ∙ h in
      known.each at.room.0 e p a.placed.room day (omega arith) ∙ rw (somewhere I Q p at.room.0 e at a.patient a.after, eq-eqb at.room.0 at.room.0 refl) covered

module _ {I : Draft} {P plan : Timetable} {here : List LinksState} {loads : List NurseLoad} {counts : List ℕ} (known : IsTied I P plan here loads counts) where
  -- a ledger stands for its own timetable
  pub stands-own : IsTied I plan plan here loads counts
  stands-own = subst (λ (S : Timetable). IsTied I S plan here loads counts) (sym known.plan_is) known

  -- tables that fit its own timetable after a write make it stand for each that it stood for, after that write
  pub stands-for : (w : Write) {next : Timetable} {new_here kept_here : List LinksState} {new_loads kept_loads : List NurseLoad} {new_counts kept_counts : List ℕ}
      → kept_here ≡ new_here → kept_loads ≡ new_loads → kept_counts ≡ new_counts → next ≡ put w plan → IsPlanOf I (put w plan)
      → AreHere I (put w plan) new_here → AreLoads I (put w plan) new_loads → AreCounts I (put w plan) new_counts
      → IsTied I (put w P) next kept_here kept_loads kept_counts
  stands-for w {next} {new_here} {kept_here} {new_loads} {kept_loads} {new_counts} {kept_counts} a b e plan_is fits here_are loads_are counts_are =
      rw (a, b, e) (subst (λ (S : Timetable). IsTied I (put w S) next new_here new_loads new_counts) known.plan_is
      (record { plan_is = plan_is; fits = fits; here_are = here_are; loads_are = loads_are; counts_are = counts_are }))

  -- the nurse whom the timetable that is kept chooses
  pub cared : (r k : ℕ) {n : Option NurseNo} → n ≡ choice_of plan r k → option_map (λ (a : NurseNo). a.0) n ≡ care_of P r k
  cared r k e = ap (option_map (λ (a : NurseNo). a.0)) (e ∙ ap (λ (S : Timetable). choice_of S r k) known.plan_is)

  -- who isn't admitted is in no list
  pub not-here : (p : ℕ) → p < patient_count I → stay_of P p ≡ None → (s e : ℕ) → s < room_count I → e < I.days → is_here here s e p ≡ false
  not-here p patient free s e sh eh = known.here_are.each s e p sh eh (omega arith) ∙ nowhere I P p s e patient free

  -- who isn't admitted has no counts
  pub not-counted : (p : ℕ) → p < patient_count I → stay_of P p ≡ None → (m : ℕ) → m < nurse_count I → count_at I counts p m ≡ 0
  not-counted p patient free m mh = known.counts_are.each p m (omega arith) mh ∙ count-none I P p m patient free

  pub loads-small : IsValid I → (m j : ℕ) → m < nurse_count I → j < shift_count I → load_at I loads m j ≤ 256000000
  loads-small valid m j mh jh =
      let each = known.loads_are.each m j mh jh in
      omega (arith, each, load-most I P m j valid)

pub all-some : {X : Type 0} (T : X → Type 0) (o : Option X) → ((x : X) → o ≡ Some x → T x) → IfSome o T
all-some T None h = tt
all-some T (Some x) h = h x refl
