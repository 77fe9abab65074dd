-- The search of a call: what it is, and that the words and the files determine it.
use Rattle.std.proofs.Common.{◌≡◌, ◌∙◌, ◌≤◌, arith, refl, sym, ap, ap₂, subst, Bool, true, false, List, ℕ, Option, Some, None, Ok}
use Rattle.std.specs.Prelude.{if◌then◌else◌}
use Rattle.ih_optimizer.specs.Below.Wards.{Draft, Timetable, bill_of, feasible}
use Rattle.ih_optimizer.specs.Below.Endings.{Given, HasGiven, HasInputs, HasInstance, HasOlder, HasPlan, Names}
use Rattle.ih_optimizer.specs.Below.Searches.{AreSettingsOf, ImproverState, IsNoDearer, Outcome, PinsState, Settings, fill, is_better, of_bill, pins_of}
use Rattle.ih_improve.proofs.BetterLemmas.{cheaper-no_dearer, no_dearer-same}
use Rattle.ih_improve.proofs.GivenSettings.{settings-same}
use Rattle.ih_optimizer.specs.Call.{ImproveCall, improve_inputs, older_of, reading}
use Rattle.ih_optimizer.specs.Pacing.{IsLawfulPace, most_rounds, rounds_left}
use Rattle.ih_optimizer.specs.declared.pacing.Length.{Length}
use Rattle.ih_optimizer.specs.declared.pacing.Length.TheVariants.{Attempts, Seconds}
use Rattle.ih_optimizer.specs.Laws.{SearchesAreDetermined}
use Rattle.ih_optimizer.specs.Pinning.{first_unknown}
use Rattle.ih_optimizer.specs.Searching.{IsLimit, IsSearch, IsSearchFrom, begun, cheaper_fill, new_search}

cheaper-fill : (hard : ℕ) (I : Draft) (P : Timetable) → IsNoDearer I P (cheaper_fill hard I P)
cheaper-fill hard I P = by_case (is_better hard 0 I.weights (of_bill (bill_of I (fill I hard P))) (of_bill (bill_of I P))) refl
  where
    by_case : (b : Bool) → is_better hard 0 I.weights (of_bill (bill_of I (fill I hard P))) (of_bill (bill_of I P)) ≡ b
        → IsNoDearer I P (if b then fill I hard P else P)
    by_case true on = cheaper-no_dearer I hard P (fill I hard P) on
    by_case false off = no_dearer-same I P

-- what a search starts from is no dearer than what is given
begun-no_dearer : (filled : Bool) (hard : ℕ) (I : Draft) (P : Timetable) → IsNoDearer I P (begun filled hard I P)
begun-no_dearer false hard I P = no_dearer-same I P
begun-no_dearer true hard I P = by_case (feasible (bill_of I P)) refl
  where
    by_case : (works : Bool) → feasible (bill_of I P) ≡ works
        → IsNoDearer I P (if works then cheaper_fill hard I P else fill I hard P)
    by_case true works = cheaper-fill hard I P
    by_case false fails = record {
      works = λ h. absurd (let no : true ≡ false = sym h ∙ fails in cc);
      cheap = λ h. absurd (let no : true ≡ false = sym h ∙ fails in cc);
    }

-- a search that was begun from a start of the call
pub search-from : (I J : Draft) (c : ImproveCall) (P start : Timetable) (p : ℕ) (pins : PinsState) (s : Settings) (v : ImproverState) → v ≡ new_search J start pins s → J ≡ I
    → IsLawfulPace c.pace → AreSettingsOf I c.settings p s → start ≡ begun c.start.fill s.hard I P → first_unknown I c.pins ≡ None
    → pins ≡ pins_of I c.pins c.pin_nurses → IsSearchFrom I P c v
search-from I J c P start p pins s v is same pace settings from named pinned =
    subst (λ (x : ImproverState). IsSearchFrom I P c x)
    (sym (is ∙ (ap (λ (X : Draft). new_search X start pins s) same ∙ ap (λ (k : PinsState). new_search I start k s) pinned)))
    (record {
      pace = pace;
      processors = p;
      settings = settings;
      start = from;
      no_dearer = subst (λ (S : Timetable). IsNoDearer I P S) (sym from) (begun-no_dearer c.start.fill s.hard I P);
      named = named;
      is_new = refl;
    })

instance-same : (name : List ℕ) (files : Names) (I J : Draft) → HasInstance name I files → HasInstance name J files → I ≡ J
instance-same name files I J one other = let same : Ok I ≡ Ok J = sym one.read ∙ other.read in cc

plan-same : (files : Names) (name : Option (List ℕ)) (I : Draft) (P Q : Timetable) → HasPlan (Some files) name I P → HasPlan (Some files) name I Q → P ≡ Q
plan-same files None I P Q one other = one ∙ sym other
plan-same files (Some name) I P Q one other = let same : Ok P ≡ Ok Q = sym one.read ∙ other.read in cc

pub searches-same : SearchesAreDetermined
searches-same c files held kept bound limit v w one other processors =
    let same : v.instance ≡ w.instance = instance-same c.instance files v.instance w.instance one.inputs.instance other.inputs.instance in
    let given : one.given ≡ other.given =
    plan-same files c.start.file w.instance one.given other.given (subst (λ (X : Draft). HasPlan (Some files) c.start.file X one.given) same one.inputs.plan) other.inputs.plan in
    let settings : v.settings ≡ w.settings =
    settings-same w.instance c.settings other.from.processors v.settings w.settings
    (subst (λ (p : ℕ). AreSettingsOf w.instance c.settings p v.settings) processors
    (subst (λ (X : Draft). AreSettingsOf X c.settings one.from.processors v.settings) same one.from.settings)) other.from.settings in
    let start : v.start ≡ w.start =
    one.from.start ∙ (ap (λ (X : Draft). begun c.start.fill v.settings.hard X one.given) same
    ∙ (ap₂ (λ (s : Settings) (P : Timetable). begun c.start.fill s.hard w.instance P) settings given ∙ sym other.from.start)) in
    one.from.is_new ∙ (ap (λ (X : Draft). new_search X v.start (pins_of X c.pins c.pin_nurses) v.settings) same
    ∙ (ap₂ (λ (P : Timetable) (s : Settings). new_search w.instance P (pins_of w.instance c.pins c.pin_nurses) s) start settings ∙ sym other.from.is_new))

-- the search that was begun is that of the files and the words
pub search-of : (files : Option Names) (found : Bool) (d : ImproveCall) (g : Given) (bound : Option Outcome) (v : ImproverState) → HasGiven files (improve_inputs (reading found d)) g
    → IsLimit d.is_bounded g.instance bound → IsSearchFrom g.instance g.plan d v → IsSearch files (reading found d) g.older bound v
search-of files found d g bound v has limit began =
    let c = reading found d in
    let from : IsSearchFrom g.instance g.plan c v = record {
      pace = began.pace;
      processors = began.processors;
      settings = began.settings;
      start = began.start;
      no_dearer = began.no_dearer;
      named = began.named;
      is_new = began.is_new;
    } in
    let same : v.instance ≡ g.instance = ap (λ (x : ImproverState). x.instance) from.is_new in
    record {
      given = g.plan;
      inputs = subst (λ (X : Draft). HasInputs files (improve_inputs c) X g.plan) (sym same) has.inputs;
      older = subst (λ (X : Draft). HasOlder files (older_of c) X g.older) (sym same) has.older;
      limit = subst (λ (X : Draft). IsLimit c.is_bounded X bound) (sym same) limit;
      from = subst (λ (X : Draft). IsSearchFrom X g.plan c v) (sym same) from;
    }

-- no more rounds are left than the call makes at most
pub rounds-few : (l : Length) (rounds : ℕ) (over : Bool) (made : ℕ) → rounds_left l rounds over made ≤ most_rounds l rounds
rounds-few (Attempts n) rounds over made = omega arith
rounds-few (Seconds s) rounds true made = omega arith
rounds-few (Seconds s) rounds false made = omega arith
