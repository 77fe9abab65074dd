-- What a search with one worker makes is one thing, over the same files, and so is the place of its best. So two calls of
-- such a search end alike, where no fault and no lack of memory ended them; and so do demos.
use Rattle.std.proofs.Common.{◌≡◌, ◌∙◌, ℕ, refl, sym, ap, ap₂, subst, List, map, Option, Some, None, arith, inl, inr, true, false, ◌<◌, ◌≤◌, Bool, [], length}
use Rattle.std.specs.Prelude.{codes, Ok, slice_get, ◌≢◌, ◌⊎◌, Result, Err}
use Rattle.ih_top.specs.Below.Wards.{Draft, Timetable, empty, instance, plan_in}
use Rattle.ih_top.specs.Below.Arguments.{SolveCall}
use Rattle.ih_top.specs.Below.Endings.{Done, EndsUnread, HasInputs, HasNoFault, HasPlan, InputFiles, Instance, InstanceRefused, IsNext, IsUnread, MAX_FILE, Names, NoneFound, OutOfMemory, SaysUnread, Solution, StartRefused, Status}
use Rattle.ih_top.specs.Below.Endings.{TooLong, Unchanged, bytes_at, none_found_text, refused_text, too_long_text, two_files, unread_status}
use Rattle.ih_top.specs.Below.Searches.{Base, ComesBefore, Entry, HaveNone, IsBestOf, IsFull, Options, Round, Tried, chain_journal, chain_tried, fill, journal, started, tried, tries}
use Rattle.ih_journal.proofs.BestLemmas.{best-one, best-or-none}
use Rattle.ih_journal.proofs.LoneWorkers.{lone-same}
use Rattle.ih_journal.proofs.Mapped.{tries-one}
use Rattle.ih_chain.proofs.EntryTries.{chain_tries-one}
use Rattle.ih_top.specs.Searches.{of_chains, HasBase, SearchForm, of_history, of_moves, HasFoundNone, IsDone, SearchEnds, OthersUnchanged}
use Rattle.ih_top.specs.Demo.{HasSaid, IsDemo}
use Rattle.ih_top.specs.Laws.{DemosShowTheSame, LoneSearchesAreAlike, LoneSearchesDoTheSame, EndTheSame, LoneSearchesEndAlike}
use Rattle.ih_top.specs.Texts.{demo_text}
use Rattle.ih_top.proofs.Accepted.{base-same, same-plan, accepted-two}
use Rattle.std.proofs.lemmas.Bool.{cases_lt, le-ltb, lt-ltb}
use Rattle.std.proofs.lemmas.Int.{ints}
use Rattle.std.proofs.lemmas.List.{length-map}
use Rattle.ih_rounds.proofs.JournalsApart.{lone-rounds}
use Rattle.ih_top.specs.Rounds.{IsBestSpot, Spot, of_rounds}
use Rattle.std.specs.Bool.{Decides}
use Rattle.std.specs.Str.{bytes_eq}
use Rattle.std.proofs.Math.Dec.{ltb}
use Rattle.std.proofs.lemmas.Slice.Eq.{bytes_eq-Decides}
use Rattle.ih_tables.specs.declared.refusals.Refusal.{Refusal}
use Rattle.ih_inputs.specs.declared.error.InputError.{InputError}
use Rattle.ih_inputs.specs.declared.error.InputError.TheVariants.{ReadFault as Unreadable, TooLong as Long, InstanceRefused as NoInstance, NextRefused as NoNext, OlderRefused as NoOlder, SolutionRefused as NoSolution, OutOfMemory as NoRoom}
use Rattle.ih_inputs.specs.declared.error.InputRole.TheVariants.{Instance as InstanceInput, Journal as JournalInput, Next as NextInput, Older as OlderInput, Solution as SolutionInput}
use Rattle.ih_top.specs.Commands.{solve_inputs}
use Rattle.ih_endings.proofs.Stopping.{named}
use Rattle.ih_top.proofs.FaultlessEnds.{search-faultless}

-- ---- one base

pub one-base : (files : Names) (s : SolveCall) (b c : Base) → HasBase (Some files) s b → HasBase (Some files) s c → b ≡ c
one-base files s b c first second =
    let one = first.start in
    let other = second.start in
    let instance : b.instance ≡ c.instance = (let same : Ok b.instance ≡ Ok c.instance = sym one.inputs.instance.read ∙ other.inputs.instance.read in cc) in
    let options : b.options ≡ c.options = first.options ∙ sym second.options in
    let plan : one.plan ≡ other.plan = same-plan files s.start.file b.instance one.plan other.plan one.inputs.plan
    (subst (λ (I : Draft). HasPlan (Some files) s.start.file I other.plan) (sym instance) other.inputs.plan) in
    let start : b.start ≡ c.start = one.started.start
    ∙ (ap₂ (λ (o : Options) (t : Draft × Timetable). started s.start.fill o.hard t.0 t.1) options
    (let both : (b.instance, one.plan) ≡ (c.instance, other.plan) = rw (instance, plan) refl in both)
    ∙ sym other.started.start) in
    base-same b c instance start options (one.started.freeze ∙ sym other.started.freeze)

-- what is made with one worker is one thing, and so is the place of its best
pub record IsLone {X K : Type 0} (form : SearchForm X K) : Type 0 where
  pub one : (b : Base) (H G : X) → b.options.workers ≡ 1 → form.is_made b H → form.is_made b G → H ≡ G
  pub best : (b : Base) (H : X) (k j : K) → form.is_best b H k → form.is_best b H j → k ≡ j
  pub never : (b : Base) (H : X) (k : K) → form.is_best b H k → form.has_none b H → ⊥

-- where what entries stand for tells the entries
histories-lone : {E : Type 0} (tried : E → Tried) (journal : Options → List E → List ℕ) (each : ℕ) → ((H G : List E) → map tried H ≡ map tried G → H ≡ G)
    → IsLone (of_history tried journal each)
histories-lone tried journal each telling = record {
  one = λ b H G alone here there. telling H G (lone-same b each (map tried H) (map tried G) alone here.full there.full);
  best = λ b H k j one other. best-one b (map tried H) k j one other;
  never = λ b H k best none. best-or-none b (map tried H) k best none;
}

pub moves-lone : IsLone of_moves
moves-lone = histories-lone tried journal 1 (λ H G same. tries-one H G same)

pub chains-lone : (each : ℕ) → IsLone (of_chains each)
chains-lone each = histories-lone chain_tried (λ o H. chain_journal o each H) each (λ H G same. chain_tries-one H G same)

pub searches-alike : {X K : Type 0} (form : SearchForm X K) → IsLone form → LoneSearchesAreAlike form
searches-alike {X} form lone files s b c H G one-worker first second =
    let same = one-base files s b c first.base second.base in
    let alone : c.options.workers ≡ 1 = ap (λ (o : Options). o.workers) second.base.options ∙ one-worker in
    (same, lone.one c H G alone (subst (λ (x : Base). form.is_made x H) same first.made) second.made)

-- ---- one end

pub searches-same : {X K : Type 0} (form : SearchForm X K) → IsLone form → LoneSearchesDoTheSame form
searches-same {X} {K} form lone s old new other text told one-worker first second =
    let same = searches-alike form lone old s first.0.base second.0.base first.0.history second.0.history one-worker first.0.search second.0.search in
    let both : (first.0.base, first.0.history) ≡ (second.0.base, second.0.history) = rw (same.0, same.1) refl in
    let place : first.0.place ≡ second.0.place = lone.best second.0.base second.0.history first.0.place second.0.place
    (subst (λ (t : Base × X). form.is_best t.0 t.1 first.0.place) both first.0.best) second.0.best in
    record {
      journal = first.0.written.journal ∙ (ap (λ (t : Base × X). Some (form.journal t.0.options t.1)) both ∙ sym second.0.written.journal);
      solution = first.0.written.out ∙ (ap₂ (λ (t : Base × X) (k : K). Some (form.solution t.0 t.1 k)) both place ∙ sym second.0.written.out);
      said = first.1 ∙ (ap₂ (λ (t : Base × X) (k : K). form.said t.0 t.1 k) both place ∙ sym second.1);
    }

one-demo : (number : ℕ) (b c : Base) (H G : List Entry) → IsDemo number b H → IsDemo number c G → (b ≡ c) × (H ≡ G)
one-demo number b c H G first second =
    let instance : b.instance ≡ c.instance = (let same : Ok b.instance ≡ Ok c.instance = sym first.base.instance ∙ second.base.instance in cc) in
    let start : b.start ≡ c.start = first.base.start ∙ (ap (λ (I : Draft). fill I 100000 (empty I)) instance ∙ sym second.base.start) in
    let same = base-same b c instance start (first.base.options ∙ sym second.base.options) (first.base.freeze ∙ sym second.base.freeze) in
    let alone : c.options.workers ≡ 1 = ap (λ (o : Options). o.workers) second.base.options in
    (same, tries-one H G (lone-same c 1 (tries H) (tries G) alone (subst (λ (x : Base). IsFull x 1 (tries H)) same first.full) second.full))

pub demos-same : DemosShowTheSame
demos-same number said told first second =
    let same = one-demo number first.base second.base first.history second.history first.demo second.demo in
    let both : (first.base, first.history) ≡ (second.base, second.history) = rw (same.0, same.1) refl in
    one-said second.base second.history said told (subst (λ (t : Base × List Entry). HasSaid number t.0 t.1 said) both first.said_is) second.said_is
  where
    one-said : (b : Base) (H : List Entry) (x y : Option (List ℕ)) → HasSaid number b H x → HasSaid number b H y → x ≡ y
    one-said b H None None one other = refl
    one-said b H None (Some text) one (k, best, is) = absurd (best-or-none b (tries H) k best one)
    one-said b H (Some text) None (k, best, is) other = absurd (best-or-none b (tries H) k best other)
    one-said b H (Some text) (Some more) (k, best, is) (j, there, told) =
        ap Some (is ∙ (ap (demo_text number b H) (best-one b (tries H) k j best there) ∙ sym told))

not-before : (b : Base) (rs : List Round) (q k p j : ℕ) → IsBestOf b rs q k → IsBestOf b rs p j → ComesBefore p j q k → ⊥
not-before b rs q k p j one other before =
    let over = one.first p j other.round other.is other.place other.works before in
    let under = other.cheapest q k one.round one.is one.place one.works in
    omega (arith, ints, over, under)

one-best : (b : Base) (rs : List Round) (q k p j : ℕ) → IsBestOf b rs q k → IsBestOf b rs p j → (q ≡ p) × (k ≡ j)
one-best b rs q k p j one other = elim (cases_lt p q) [
  | inl less ↦ absurd (not-before b rs q k p j one other (inl less))
  | inr over ↦ elim (cases_lt q p) [
    | inl less ↦ absurd (not-before b rs p j q k other one (inl less))
    | inr under ↦ let same : q ≡ p = omega (arith, over, under) in (same, places same)
  ]
]
  where
    places : q ≡ p → k ≡ j
    places same = elim (cases_lt j k) [
      | inl less ↦ absurd (not-before b rs q k p j one other (inr (sym same, less)))
      | inr over ↦ elim (cases_lt k j) [
        | inl less ↦ absurd (not-before b rs p j q k other one (inr (same, less)))
        | inr under ↦ omega (arith, over, under)
      ]
    ]

best-and-none : (b : Base) (rs : List Round) (q k : ℕ) → IsBestOf b rs q k → HaveNone b rs → ⊥
best-and-none b rs q k best none =
    let len = length-map best.round.history tried in
    let place = best.place in
    let no : false ≡ true = sym (none q best.round best.is k (omega (arith, len, place))) ∙ best.works in cc

one-spot : (b : Base) (rs : List Round) (p q : Spot) → IsBestSpot b rs p → IsBestSpot b rs q → p ≡ q
one-spot b rs p q one other =
    let same = one-best b rs p.number p.place q.number q.place one.best other.best in
    let there : Some one.best.round ≡ Some other.best.round = sym one.best.is ∙ (ap (slice_get rs) same.0 ∙ other.best.is) in
    let found : one.best.round ≡ other.best.round = cc in
    let round : p.round ≡ q.round = sym one.round ∙ (found ∙ other.round) in
    ap (λ (t : ℕ × Round × ℕ). let spot : Spot = record { number = t.0; round = t.1; place = t.2 } in spot)
    (let all : ◌≡◌ {A = ℕ × Round × ℕ} (p.number, p.round, p.place) (q.number, q.round, q.place) = rw (same.0, round, same.1) refl in all)

pub rounds-lone : (count : ℕ) → IsLone (of_rounds count)
rounds-lone count = record {
  one = λ b rs ss alone here there. lone-rounds b rs ss alone here.legal there.legal (here.count_is ∙ sym there.count_is);
  best = one-spot;
  never = λ b rs p best none. best-and-none b rs p.number p.place best.best none;
}

-- ---- how files are refused follows from them

-- of a start: too long, refused, or neither
abbrev start-verdict : Bool → Result Timetable Refusal → List ℕ → Status × List ℕ
start-verdict true plan name = (TooLong Solution, too_long_text name)
start-verdict false (Err e) name = (StartRefused e, refused_text (codes "solution") e)
start-verdict false (Ok P) name = (Done, [])

-- where a start is named
abbrev next-verdict : Names → Draft → Option (List ℕ) → Status × List ℕ
next-verdict files I None = (Done, [])
next-verdict files I (Some name) = start-verdict (ltb MAX_FILE (length (bytes_at files name))) (plan_in I (bytes_at files name)) name

-- of an instance
abbrev first-verdict : Names → InputFiles → Bool → Result Draft Refusal → Status × List ℕ
first-verdict files r true draft = (TooLong Instance, too_long_text r.instance)
first-verdict files r false (Err e) = (InstanceRefused e, refused_text (codes "instance") e)
first-verdict files r false (Ok I) = next-verdict files I r.solution

abbrev verdict : Names → InputFiles → Status × List ℕ
verdict files r = first-verdict files r (ltb MAX_FILE (length (bytes_at files r.instance))) (instance (bytes_at files r.instance))

over : (a b : ℕ) → a < b → true ≡ ltb a b
over a b h = sym (lt-ltb a b h)

within : (a b : ℕ) → b ≤ a → false ≡ ltb a b
within a b h = sym (le-ltb a b h)

module _ (files : Names) (file : List ℕ) (start : Option (List ℕ)) where
  abbrev r : InputFiles
  r = two_files file start

  -- the instance is accepted, and a start is named
  at-start : (I : Draft) (name : List ℕ) → IsNext (Some files) r I name
      → ◌≡◌ {A = Status × List ℕ} (start-verdict (ltb MAX_FILE (length (bytes_at files name))) (plan_in I (bytes_at files name)) name) (verdict files r)
  at-start I name next =
      ap (next-verdict files I) (sym next.named)
      ∙ ap₂ (first-verdict files r) (within MAX_FILE (length (bytes_at files r.instance)) next.instance.short) (sym next.instance.read)

  unnamed : (name : List ℕ) → ◌≡◌ {A = Option (List ℕ)} None (Some name) → ⊥
  unnamed name is = let clash : ◌≡◌ {A = Option (List ℕ)} None (Some name) = is in cc

  by-error : (e : InputError) (text : List ℕ) → HasNoFault (unread_status e) → unread_status e ≢ OutOfMemory → SaysUnread r e text
      → IsUnread (Some files) r e → ◌≡◌ {A = Status × List ℕ} (unread_status e, text) (verdict files r)
  by-error (Unreadable role) text calm room said h = absurd calm
  by-error (Long InstanceInput) text calm room said h =
      ap (λ (t : List ℕ). let both : Status × List ℕ = (TooLong Instance, t) in both) said
      ∙ ap (λ (long : Bool). first-verdict files r long (instance (bytes_at files r.instance))) (over MAX_FILE (length (bytes_at files r.instance)) h)
  by-error (Long SolutionInput) text calm room said (I, name, next, long) =
      ap (λ (t : List ℕ). let both : Status × List ℕ = (TooLong Solution, t) in both) said
      ∙ (ap (λ (n : List ℕ). let both : Status × List ℕ = (TooLong Solution, too_long_text n) in both) (named r name next.named)
      ∙ (ap (λ (over : Bool). start-verdict over (plan_in I (bytes_at files name)) name) (over MAX_FILE (length (bytes_at files name)) long)
      ∙ at-start I name next))
  by-error (NoInstance x) text calm room said h =
      ap (λ (t : List ℕ). let both : Status × List ℕ = (InstanceRefused x.refusal, t) in both) said
      ∙ ap₂ (first-verdict files r) (within MAX_FILE (length (bytes_at files r.instance)) h.short) (sym h.read)
  by-error (NoSolution x) text calm room said (I, name, next, refused) =
      ap (λ (t : List ℕ). let both : Status × List ℕ = (StartRefused x.refusal, t) in both) said
      ∙ (ap₂ (λ (long : Bool) (plan : Result Timetable Refusal). start-verdict long plan name)
      (within MAX_FILE (length (bytes_at files name)) refused.short) (sym refused.read)
      ∙ at-start I name next)
  by-error NoRoom text calm room said h = absurd (room refl)
  -- no other file is named
  by-error (Long OlderInput) text calm room said (I, name, next, long) = absurd (unnamed name next.named)
  by-error (Long JournalInput) text calm room said (name, next, long) = absurd (unnamed name next.named)
  by-error (Long NextInput) text calm room said (name, last, long) = absurd (unnamed name last.named)
  by-error (NoOlder x) text calm room said (I, name, next, refused) = absurd (unnamed name next.named)
  by-error (NoNext x) text calm room said (name, last, refused) = absurd (unnamed name last.named)

  refused-so : (status : Status) (text : List ℕ) → HasNoFault status → status ≢ OutOfMemory → EndsUnread (Some files) r status text
      → ◌≡◌ {A = Status × List ℕ} (status, text) (verdict files r)
  refused-so status text calm room (e, is, said, why) =
      ap (λ (s : Status). let both : Status × List ℕ = (s, text) in both) is
      ∙ by-error e text (subst HasNoFault is calm) (λ lacks. room (is ∙ lacks)) said why

-- ---- three kinds of ends

-- the files aren't as they ought to be, and nothing is written
pub record IsUnreadEnd (x : InputFiles) (old new : Names) (status : Status) (text : List ℕ) : Type 0 where
  pub kept : Unchanged old new
  pub so : ◌≡◌ {A = Status × List ℕ} (status, text) (verdict old x)
  pub never : (I : Draft) (P : Timetable) → HasInputs (Some old) x I P → ⊥

unread : (file : List ℕ) (start : Option (List ℕ)) (old new : Names) (status : Status) (text : List ℕ) → HasNoFault status → status ≢ OutOfMemory → Unchanged old new
    → EndsUnread (Some old) (two_files file start) status text → IsUnreadEnd (two_files file start) old new status text
unread file start old new status text calm room kept h = record {
  kept = kept;
  so = refused-so old file start status text calm room h;
  never = λ I P has. room (accepted-two old file start I P has status text calm h);
}

unread-alike : (x : InputFiles) (old new other : Names) (status ended : Status) (text told : List ℕ) → IsUnreadEnd x old new status text
    → IsUnreadEnd x old other ended told → EndTheSame status ended text told new other
unread-alike x old new other status ended text told first second =
    let same : ◌≡◌ {A = Status × List ℕ} (status, text) (ended, told) = first.so ∙ sym second.so in
    record {
      status = ap (λ (t : Status × List ℕ). t.0) same;
      said = ap (λ (t : Status × List ℕ). t.1) same;
      files = λ n. first.kept n ∙ sym (second.kept n);
    }

-- it is done, it found none, or it came no further than its files
abbrev SearchEnd : {X K : Type 0} → SearchForm X K → SolveCall → Names → Names → Status → List ℕ → Type 0
SearchEnd form s old new status text =
    ((status ≡ Done) × IsDone form s (Some old) (Some new) text)
    ⊎ ((status ≡ NoneFound) × (HasFoundNone form s (Some old) (Some new) × (text ≡ none_found_text)))
    ⊎ IsUnreadEnd (solve_inputs s) old new status text

-- what no fault ended, nor lack of memory
search-end : {X K : Type 0} (form : SearchForm X K) (s : SolveCall) (old new : Names) (status : Status) (text : List ℕ) → HasNoFault status → status ≢ OutOfMemory
    → SearchEnds form s (Some old) (Some new) status text → SearchEnd form s old new status text
search-end form s old new status text calm room h = elim (search-faultless form s (Some old) (Some new) status text calm h) [
  | inl memory ↦ absurd (room memory)
  | inr (inl done) ↦ inl done
  | inr (inr (inl none)) ↦ inr (inl none)
  | inr (inr (inr other)) ↦ inr (inr (unread s.instance s.start.file old new status text calm room other.0 other.1))
]

-- ---- the same files

-- what holds of the solution's name, of the journal's and of all others holds of each
same-files : (s : SolveCall) (old new other : Names) → new s.journal ≡ other s.journal → new s.out ≡ other s.out → OthersUnchanged s old new
    → OthersUnchanged s old other → (n : List ℕ) → new n ≡ other n
same-files s old new other journals outs first second n = by_out (bytes_eq n s.out) (bytes_eq-Decides n s.out)
  where
    by_journal : n ≢ s.out → (t : Bool) → Decides t (n ≡ s.journal) → new n ≡ other n
    by_journal away true is = let at : n ≡ s.journal = is.0 refl in ap new at ∙ (journals ∙ sym (ap other at))
    by_journal away false is =
        let apart : n ≢ s.journal = λ e. (let no : false ≡ true = is.1 e in cc) in
        first n away apart ∙ sym (second n away apart)

    by_out : (t : Bool) → Decides t (n ≡ s.out) → new n ≡ other n
    by_out true is = let at : n ≡ s.out = is.0 refl in ap new at ∙ (outs ∙ sym (ap other at))
    by_out false is =
        let away : n ≢ s.out = λ e. (let no : false ≡ true = is.1 e in cc) in
        by_journal away (bytes_eq n s.journal) (bytes_eq-Decides n s.journal)

-- ---- two ends

module _ {X K : Type 0} (form : SearchForm X K) (lone : IsLone form) (s : SolveCall) (old new other : Names) (status ended : Status) (text told : List ℕ)
    (one-worker : s.options.workers ≡ 1) where
  -- the one found its best and the other found none
  not-both-ways : (here there : Names) (said : List ℕ) → IsDone form s (Some old) (Some here) said → HasFoundNone form s (Some old) (Some there) → ⊥
  not-both-ways here there said done none =
      let same = searches-alike form lone old s done.0.base none.0.base done.0.history none.0.history one-worker done.0.search none.0.search in
      let both : ◌≡◌ {A = Base × X} (done.0.base, done.0.history) (none.0.base, none.0.history) = rw (same.0, same.1) refl in
      lone.never none.0.base none.0.history done.0.place (subst (λ (t : Base × X). form.is_best t.0 t.1 done.0.place) both done.0.best) none.1

  both-done : status ≡ Done → IsDone form s (Some old) (Some new) text → ended ≡ Done → IsDone form s (Some old) (Some other) told
      → EndTheSame status ended text told new other
  both-done one first two second =
      let same = searches-same form lone s old new other text told one-worker first second in
      record {
        status = one ∙ sym two;
        said = same.said;
        files = same-files s old new other same.journal same.solution first.0.written.others second.0.written.others;
      }

  both-none : status ≡ NoneFound → HasFoundNone form s (Some old) (Some new) → text ≡ none_found_text
      → ended ≡ NoneFound → HasFoundNone form s (Some old) (Some other) → told ≡ none_found_text → EndTheSame status ended text told new other
  both-none one first said two second also =
      let same = searches-alike form lone old s first.0.base second.0.base first.0.history second.0.history one-worker first.0.search second.0.search in
      let both : ◌≡◌ {A = Base × X} (first.0.base, first.0.history) (second.0.base, second.0.history) = rw (same.0, same.1) refl in
      record {
        status = one ∙ sym two;
        said = said ∙ sym also;
        files = same-files s old new other
            (first.0.written.journal ∙ (ap (λ (t : Base × X). Some (form.journal t.0.options t.1)) both ∙ sym second.0.written.journal))
            (first.0.written.out ∙ sym second.0.written.out) first.0.written.others second.0.written.others;
      }

  same-ends : SearchEnd form s old new status text → SearchEnd form s old other ended told → EndTheSame status ended text told new other
  same-ends (inl one) (inl two) = both-done one.0 one.1 two.0 two.1
  same-ends (inl one) (inr (inl two)) = absurd (not-both-ways new other text one.1 two.1.0)
  same-ends (inl one) (inr (inr two)) = let start = one.1.0.search.base.start in absurd (two.never one.1.0.base.instance start.plan start.inputs)
  same-ends (inr (inl one)) (inl two) = absurd (not-both-ways other new told two.1 one.1.0)
  same-ends (inr (inl one)) (inr (inl two)) = both-none one.0 one.1.0 one.1.1 two.0 two.1.0 two.1.1
  same-ends (inr (inl one)) (inr (inr two)) = let start = one.1.0.0.search.base.start in absurd (two.never one.1.0.0.base.instance start.plan start.inputs)
  same-ends (inr (inr one)) (inl two) = let start = two.1.0.search.base.start in absurd (one.never two.1.0.base.instance start.plan start.inputs)
  same-ends (inr (inr one)) (inr (inl two)) = let start = two.1.0.0.search.base.start in absurd (one.never two.1.0.0.base.instance start.plan start.inputs)
  same-ends (inr (inr one)) (inr (inr two)) = unread-alike (solve_inputs s) old new other status ended text told one two

pub searches-end-alike : {X K : Type 0} (form : SearchForm X K) → IsLone form → LoneSearchesEndAlike form
searches-end-alike form lone s old new other status ended text told one-worker calm quiet room space first second =
    same-ends form lone s old new other status ended text told one-worker (search-end form s old new status text calm room first)
    (search-end form s old other ended told quiet space second)
