use Rattle.std.proofs.Common.{◌≡◌, ◌∙◌, ap, ℕ, List}
use Rattle.std.specs.Prelude.{codes}
use Rattle.std.proofs.lemmas.Result.{IfOk-weaker}
use Rattle.serde_json.specs.Data.{Data}
use Rattle.ih_solution.specs.Solution.{list_data}
use Rattle.ih_gen.specs.Words.{stream_of, begins, in_a_row}
use Rattle.ih_gen.specs.Members.{fixed_data}
use Rattle.ih_gen.specs.Generated.{room_data, room_words, nurse_data, nurse_words, occupant_data, occupant_words, patient_data, patient_words, nurse_stream, occupant_stream, patient_stream}
use Rattle.ih_gen.proofs.Assembly.{put-known, list-known, whole}
use Rattle.ih_gen.proofs.instances.generated_value.Goals as goal

pub returns : goal.returns
returns c =
    let seed = c.args.seed in
    let start : c.of-picks.result ≡ stream_of seed = c.of-picks.ensures in
    let first : c.rows.new.picks ≡ nurse_stream seed = c.in_ok-rooms.ensures.rest ∙ ap (begins room_words 25) start in
    let second : c.rows-2.new.picks ≡ occupant_stream seed = c.in_ok-nurses.ensures.rest ∙ ap (begins (nurse_words 28) 50) first in
    let third : c.rows-3.new.picks ≡ patient_stream seed = c.in_ok-occupants.ensures.rest ∙ ap (begins occupant_words 3) second in
    let rooms : List Data = in_a_row room_data room_words 25 (stream_of seed) in
    let nurses : List Data = in_a_row (nurse_data 28) (nurse_words 28) 50 (nurse_stream seed) in
    let occupants : List Data = in_a_row occupant_data occupant_words 3 (occupant_stream seed) in
    let patients : List Data = in_a_row (patient_data 28) patient_words 400 (patient_stream seed) in
    let housed = put-known (codes "rooms") _ _ _ (list_data rooms) (fixed_data 28) c.in_ok-housed.ensures
    (list-known c.in_ok-rooms.rooms rooms (c.in_ok-rooms.ensures.values ∙ ap (in_a_row room_data room_words 25) start)) c.in_ok-fixed.ensures in
    let staffed = put-known (codes "nurses") _ _ _ (list_data nurses) _ c.in_ok-staffed.ensures
    (list-known c.in_ok-nurses.nurses nurses (c.in_ok-nurses.ensures.values ∙ ap (in_a_row (nurse_data 28) (nurse_words 28) 50) first)) housed in
    let occupied = put-known (codes "occupants") _ _ _ (list_data occupants) _ c.in_ok-occupied.ensures
    (list-known c.in_ok-occupants.occupants occupants (c.in_ok-occupants.ensures.values ∙ ap (in_a_row occupant_data occupant_words 3) second)) staffed in
    IfOk-weaker c.with_member-4.result _ _
    (λ v e. put-known (codes "patients") _ _ _ (list_data patients) _ e
    (list-known c.in_ok-patients.patients patients (c.in_ok-patients.ensures.values ∙ ap (in_a_row (patient_data 28) patient_words 400) third)) occupied
    ∙ whole seed)
    c.with_member-4.ensures
