-- A fill, choice by choice.
use Rattle.std.proofs.Common.{◌≡◌, ℕ, ◌+◌, ◌<◌, ◌≤◌, refl, sym, ◌∙◌, ap, true, false, Bool, List, [], ◌∷◌, ◌++◌, length, take}
use Rattle.std.specs.Prelude.{if◌then◌else◌, Option, slice_index_or}
use Rattle.std.proofs.lemmas.List.{take_all, take_more}
use Rattle.ih_tables.specs.declared.drafts.Draft.{Draft}
use Rattle.ih_plan.specs.Timetable.{Timetable}
use Rattle.ih_fill.specs.declared.candidates.Candidate.{Candidate}
use Rattle.ih_fill.specs.declared.choices.Choice.{Choice}
use Rattle.ih_fill.specs.declared.choices.Choice.TheVariants.{Nurse, Stay}
use Rattle.ih_fill.specs.Candidates.{least_of, put_candidate}
use Rattle.ih_fill.specs.Choices.{candidates}
use Rattle.ih_fill.specs.Fill.{fill, fill_choices, is_open, view_in, with_choice, with_choices, write_score}
use Rattle.ih_fill.specs.ScorerState.{ScorerState, care_value, stay_value, value_in, view_of}

-- ---- one choice

choice-put : (F : ScorerState) (c : Choice) (best : Option Candidate) → F.counts_uncovered ≡ false → best ≡ least_of (value_in F c) (candidates F.instance c)
    → put_candidate best F.plan ≡ put_candidate (least_of (write_score F.instance F.hard (view_in c) F.plan) (candidates F.instance c)) F.plan
unfolding stay_value care_value
choice-put F (Stay p) best covered e =
    ap (λ b. put_candidate b F.plan) e
    ∙ ap (λ counts. put_candidate (least_of (write_score F.instance F.hard (view_of counts) F.plan) (candidates F.instance (Stay p))) F.plan) covered
choice-put F (Nurse r k) best covered e = ap (λ b. put_candidate b F.plan) e

-- an open one is made by the cheapest candidate
pub choice-made : (F : ScorerState) (c : Choice) (best : Option Candidate) → F.counts_uncovered ≡ false → is_open F.instance F.plan c ≡ true
    → best ≡ least_of (value_in F c) (candidates F.instance c) → put_candidate best F.plan ≡ with_choice F.instance F.hard F.plan c
unfolding with_choice
choice-made F c best covered opened e =
    choice-put F c best covered e
    ∙ ap (λ (b : Bool). if b then put_candidate (least_of (write_score F.instance F.hard (view_in c) F.plan) (candidates F.instance c)) F.plan else F.plan) (sym opened)

-- another stays as it is
pub choice-closed : (F : ScorerState) (c : Choice) → is_open F.instance F.plan c ≡ false → F.plan ≡ with_choice F.instance F.hard F.plan c
unfolding with_choice
choice-closed F c closed =
    ap (λ (b : Bool). if b then put_candidate (least_of (write_score F.instance F.hard (view_in c) F.plan) (candidates F.instance c)) F.plan else F.plan) (sym closed)

-- ---- one choice after the other

choices-append : (I : Draft) (hard : ℕ) (P : Timetable) (cs ds : List Choice) → with_choices I hard P (cs ++ ds) ≡ with_choices I hard (with_choices I hard P cs) ds
choices-append I hard P [] ds = refl
choices-append I hard P (c ∷ cs) ds = choices-append I hard (with_choice I hard P c) cs ds

-- the choice at a place is made, after those before it
pub choices-more : (I : Draft) (F G H : ScorerState) (cs : List Choice) (k : ℕ) (d : Choice) → k < length cs
    → G ≡ record F { plan = with_choices I F.hard F.plan (take k cs) }
    → H ≡ record G { plan = with_choice I G.hard G.plan (slice_index_or cs k d) }
    → H ≡ record F { plan = with_choices I F.hard F.plan (take (k + 1) cs) }
choices-more I F G H cs k d below before made =
    made
    ∙ (ap (λ (S : ScorerState). record S { plan = with_choice I S.hard S.plan (slice_index_or cs k d) }) before
    ∙ ap (λ (Q : Timetable). record F { plan = Q })
    (sym (ap (with_choices I F.hard F.plan) (take_more cs k d below) ∙ choices-append I F.hard F.plan (take k cs) (slice_index_or cs k d ∷ []))))

pub choices-all : (I : Draft) (F G : ScorerState) (cs : List Choice) (k : ℕ) → length cs ≤ k → G ≡ record F { plan = with_choices I F.hard F.plan (take k cs) }
    → G ≡ record F { plan = with_choices I F.hard F.plan cs }
choices-all I F G cs k ended made = made ∙ ap (λ xs. record F { plan = with_choices I F.hard F.plan xs }) (take_all k cs ended)

pub fill-made : (I : Draft) (hard : ℕ) (P : Timetable) (F G : ScorerState) (cs : List Choice) → F ≡ record { instance = I; hard = hard; counts_uncovered = false; plan = P }
    → cs ≡ fill_choices I P → G ≡ record F { plan = with_choices I F.hard F.plan cs } → G.plan ≡ fill I hard P
unfolding fill
fill-made I hard P F G cs start all made =
    ap (λ (S : ScorerState). S.plan) made
    ∙ (ap (λ (S : ScorerState). with_choices I S.hard S.plan cs) start
    ∙ ap (with_choices I hard P) all)
