-- What a fill chooses is the first least of the candidates.
use Rattle.std.proofs.Common.{◌≡◌, ◌∙◌, ℕ, refl, sym, ap, subst, true, false, List, [], ◌∷◌, None, Some}
use Rattle.std.specs.Prelude.{ℤ, if◌then◌else◌, Bool}
use Rattle.ih_tables.specs.declared.drafts.Draft.{Draft}
use Rattle.ih_plan.specs.declared.moves.Write.{Write}
use Rattle.ih_plan.specs.Timetable.{Timetable}
use Rattle.ih_plan.specs.Writes.{put}
use Rattle.ih_fill.specs.declared.choices.Choice.{Choice}
use Rattle.ih_fill.specs.Candidates.{cheapest, least_of, put_candidate}
use Rattle.ih_fill.specs.Choices.{candidates}
use Rattle.ih_fill.specs.Fill.{is_open, view_in, with_choice, write_score}
use Rattle.ih_fill.specs.FirstLeast.{IsFirstLeastOf}
use Rattle.ih_fill.proofs.FirstLeast.{cheapest-first, first-cheapest}

put-first : (v : Write → ℤ) (ws : List Write) (P : Timetable) (w : Write) → IsFirstLeastOf v ws w → put_candidate (least_of v ws) P ≡ put w P
put-first v [] P w first = absurd (let no : None ≡ Some w = first.1.there in cc)
put-first v (x ∷ xs) P w first = ap (λ (y : Write). put y P) (first-cheapest v x xs first.0 w first.1)

has-first : (v : Write → ℤ) (ws : List Write) (x : Write) (xs : List Write) → ws ≡ x ∷ xs → (w : Write) × IsFirstLeastOf v ws w
has-first v ws x xs e = (cheapest v x xs, subst (λ ys. IsFirstLeastOf v ys (cheapest v x xs)) (sym e) (cheapest-first v x xs))

pub made-first : (I : Draft) (hard : ℕ) (P : Timetable) (c : Choice) (w : Write) → is_open I P c ≡ true
    → IsFirstLeastOf (write_score I hard (view_in c) P) (candidates I c) w → with_choice I hard P c ≡ put w P
unfolding with_choice
made-first I hard P c w opened first =
    ap (λ (b : Bool). if b then put_candidate (least_of (write_score I hard (view_in c) P) (candidates I c)) P else P) opened
    ∙ put-first (write_score I hard (view_in c) P) (candidates I c) P w first

pub some-first : (I : Draft) (hard : ℕ) (P : Timetable) (c : Choice) (x : Write) (xs : List Write) → candidates I c ≡ x ∷ xs
    → (w : Write) × IsFirstLeastOf (write_score I hard (view_in c) P) (candidates I c) w
some-first I hard P c x xs e = has-first (write_score I hard (view_in c) P) (candidates I c) x xs e

pub none-made : (I : Draft) (hard : ℕ) (P : Timetable) (c : Choice) → candidates I c ≡ [] → with_choice I hard P c ≡ P
unfolding with_choice
none-made I hard P c e =
    ap (λ ws. if is_open I P c then put_candidate (least_of (write_score I hard (view_in c) P) ws) P else P) e ∙ either (is_open I P c)
  where
    either : (b : Bool) → (if b then P else P) ≡ P
    either true = refl
    either false = refl

pub closed-stays : (I : Draft) (hard : ℕ) (P : Timetable) (c : Choice) → is_open I P c ≡ false → with_choice I hard P c ≡ P
unfolding with_choice
closed-stays I hard P c closed = ap (λ (b : Bool). if b then put_candidate (least_of (write_score I hard (view_in c) P) (candidates I c)) P else P) closed
