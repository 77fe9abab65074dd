-- Objects put together member by member.
use Rattle.std.proofs.Common.{◌≡◌, ℕ, refl, ◌∙◌, ap, List}
use Rattle.std.specs.Prelude.{codes, Vec, map}
use Rattle.std.specs.declared.alloc.Global.{Global}
use Rattle.serde_json.specs.Data.{Data, array}
use Rattle.serde_json.specs.View.{view, items_of}
use Rattle.serde_json.specs.declared.value.Value.{Value}
use Rattle.serde_json.specs.declared.value.Value.TheVariants.{Array}
use Rattle.serde_json.proofs.Views.{view-Array}
use Rattle.ih_solution.specs.Solution.{list_data}
use Rattle.ih_gen.specs.Words.{stream_of, in_a_row}
use Rattle.ih_gen.specs.Members.{with_member, fixed_data}
use Rattle.ih_gen.specs.Generated.{room_data, room_words, nurse_data, nurse_words, occupant_data, occupant_words, patient_data, patient_words, nurse_stream, occupant_stream, patient_stream, generated_data}

-- one member more, where the object and the member are known
pub put-known : (key : List ℕ) (d e f known before : Data) → d ≡ with_member key e f → e ≡ known → f ≡ before → d ≡ with_member key known before
put-known key d e f known before step first second = step ∙ (ap (λ x. with_member key x f) first ∙ ap (with_member key known) second)

-- a list of values that stand for data
pub list-known : (values : Vec Value Global) (ds : List Data) → map view values.items ≡ ds → view (Array values) ≡ list_data ds
list-known values ds e = view-Array values ∙ ap (λ xs. array (items_of xs)) e

-- the whole instance, from its four lists
pub whole : (number : ℕ)
    → with_member (codes "patients") (list_data (in_a_row (patient_data 28) patient_words 400 (patient_stream number)))
    (with_member (codes "occupants") (list_data (in_a_row occupant_data occupant_words 3 (occupant_stream number)))
    (with_member (codes "nurses") (list_data (in_a_row (nurse_data 28) (nurse_words 28) 50 (nurse_stream number)))
    (with_member (codes "rooms") (list_data (in_a_row room_data room_words 25 (stream_of number))) (fixed_data 28))))
    ≡ generated_data number
unfolding generated_data
whole number = refl
