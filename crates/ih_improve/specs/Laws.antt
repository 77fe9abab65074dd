-- Laws of searches.
use Rattle.std.specs.Prelude.{◌≡◌, ℕ, List, [], ◌∷◌}
use Rattle.ih_tables.specs.declared.drafts.Draft.{Draft}
use Rattle.ih_plan.specs.Timetable.{Timetable}
use Rattle.ih_improve.specs.declared.defaults.Defaults.{Defaults}
use Rattle.ih_improve.specs.declared.spans.Span.{Span}
use Rattle.ih_improve.specs.Defaults.{AreDefaults}
use Rattle.ih_improve.specs.ImproverState.{ImproverState, Leads, led_to, leg_of}
use Rattle.ih_improve.specs.Legs.{LegState}

-- what a worker leaves follows from what the round begins with and from its number
abbrev pub IsDetermined : (LegState → ℕ → Timetable → Type 0) → Type 0
IsDetermined leaves = (s : LegState) (w : ℕ) (P Q : Timetable) → leaves s w P → leaves s w Q → P ≡ Q

-- the timetables to which rounds with these spans lead, one after the other
abbrev pub Lead : (LegState → ℕ → Timetable → Type 0) → ImproverState → List Span → List Timetable → Type 0
Lead leaves v [] [] = Unit {0}
Lead leaves v (s ∷ ss) (P ∷ Ps) = Leads leaves v s P × Lead leaves (led_to v s P) ss Ps
Lead leaves v ss Ps = ⊥

-- where workers are determined, so are rounds: the same spans from the same beginning lead to the same timetables
abbrev pub RoundsAreDetermined : (LegState → ℕ → Timetable → Type 0) → Type 0
RoundsAreDetermined leaves =
    IsDetermined leaves → (v : ImproverState) (ss : List Span) (Ps Qs : List Timetable) → Lead leaves v ss Ps
    → Lead leaves v ss Qs
    → Ps ≡ Qs

-- what a worker leaves follows from what its rounds so far began with, the last first, and from its number
abbrev pub IsDeterminedByRounds : (List LegState → ℕ → Timetable → Type 0) → Type 0
IsDeterminedByRounds leaves =
    (ss : List LegState) (w : ℕ) (P Q : Timetable) → leaves ss w P → leaves ss w Q → P ≡ Q

-- the timetables to which further rounds lead, of workers that go on from where their rounds so far left them
abbrev pub LeadOn : (List LegState → ℕ → Timetable → Type 0) → List LegState → ImproverState → List Span
    → List Timetable → Type 0
LeadOn leaves past v [] [] = Unit {0}
LeadOn leaves past v (s ∷ ss) (P ∷ Ps) =
    Leads (λ l. leaves (l ∷ past)) v s P × LeadOn leaves (leg_of v s ∷ past) (led_to v s P) ss Ps
LeadOn leaves past v ss Ps = ⊥

-- where workers that go on are determined, so are rounds: the same spans from one start lead to the same timetables
abbrev pub RoundsOnAreDetermined : (List LegState → ℕ → Timetable → Type 0) → Type 0
RoundsOnAreDetermined leaves =
    IsDeterminedByRounds leaves → (v : ImproverState) (ss : List Span) (Ps Qs : List Timetable)
    → LeadOn leaves [] v ss Ps
    → LeadOn leaves [] v ss Qs
    → Ps ≡ Qs

-- an instance has one set of defaults
abbrev pub DefaultsAreDetermined : Type 0
DefaultsAreDetermined = (I : Draft) (d e : Defaults) → AreDefaults I d → AreDefaults I e → d ≡ e
