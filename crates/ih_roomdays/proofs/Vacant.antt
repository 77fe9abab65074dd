-- RoomLists in which nobody is.
use Rattle.std.proofs.Common.{◌≡◌, ℕ, ◌+◌, ◌*◌, ◌^◌, ◌<◌, ◌≤◌, refl, ap, ◌∙◌, [], length, replicate}
use Rattle.std.specs.Prelude.{slice_index_or}
use Rattle.std.proofs.lemmas.List.{length-replicate}
use Rattle.ih_links.specs.Days.{empty_lists, on_day}
use Rattle.ih_links.proofs.EmptyDays.{empty-day, empty-list}
use Rattle.ih_roomdays.specs.declared.room_lists.RoomLists.{RoomLists}
use Rattle.ih_roomdays.specs.Occupancy.{nobody}
use Rattle.ih_roomdays.specs.Profiles.{AreInRange, most_persons}
use Rattle.ih_roomdays.specs.RoomLists.{AreVacant, persons_at, crowd_at}
use Rattle.ih_roomdays.proofs.Tallies.{crowd-none}
use Rattle.ih_plan.proofs.ReadLemmas.{index-copies}

pub vacant : (v : RoomLists) → v.rooms * v.days < 2 ^ 32 → v.persons ≤ most_persons → AreInRange v.persons v.profiles
    → v.links.items ≡ replicate v.days (empty_lists v.rooms v.persons) → v.crowds.items ≡ replicate (v.rooms * v.days) nobody
    → AreVacant v.rooms v.days v.persons v.profiles v
vacant v few_places few_persons profiles links crowds = record {
  rows = record {
    each_day = ap length links ∙ length-replicate _ _;
    each_room = λ d below. rw (day d below) (length-replicate v.rooms []);
    numbers = λ d below. rw (day d below) refl;
    few_places = few_places;
    few_persons = few_persons;
    profiles = profiles;
    once = λ r d below. rw (empty r d) tt;
    known = λ r d x below there. absurd (let no = rw (empty r d) at there in cc);
    crowds = ap length crowds ∙ length-replicate _ _;
    kept = λ r d below. rw (empty r d, none r d) (crowd-none v.profiles);
  };
  rooms_are = refl;
  days_are = refl;
  persons_are = refl;
  profiles_are = refl;
  nobody = λ r d x. rw (empty r d) refl;
}
  where
    day : (d : ℕ) → d < v.days → on_day v.links.items d ≡ empty_lists v.rooms v.persons
    day d below = rw links (empty-day v.rooms v.persons v.days d below)

    empty : (r d : ℕ) → persons_at v r d ≡ []
    empty r d = rw links (empty-list v.rooms v.persons v.days d r)

    none : (r d : ℕ) → crowd_at v r d ≡ nobody
    none r d = ap (λ cs. slice_index_or cs (r * v.days + d) nobody) crowds ∙ index-copies (v.rooms * v.days) (r * v.days + d) nobody
