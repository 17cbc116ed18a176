-- The starts of the worked examples are sound.
use Rattle.std.proofs.Common.{ℕ, [], ◌∷◌, false, true, refl}
use Rattle.nm_types.specs.State.{State}
use Rattle.nm_model.specs.definitions.Touch.{Read, Write}
use Rattle.nm_model.specs.definitions.Effect.{new_machine, map_new}
use Rattle.nm_model.specs.definitions.Sound.{IsSound}
use Rattle.nm_model.specs.examples.{A, B, C, D, E, limit, two_nodes, three_nodes, one_process, with_second, wrote, three_pages, two_addresses, six_pages, seven_pages, shared_page, attached_by_two, four_of_five, to, on_two_of_three}
use Rattle.nm_model.specs.examples.Unmapping.{one_of_each}
use Rattle.nm_model.specs.examples.Starts.{StartsAreSound}
use Rattle.nm_laws.proofs.Soundness.New.{new_sound}
use Rattle.nm_laws.proofs.Soundness.Called.{spawn_sound, map_sound, attach_sound, pin_sound}
use Rattle.nm_laws.proofs.Soundness.Touched.{access_sound}
use Rattle.nm_laws.proofs.Soundness.Ran.{batch_sound}

wrote_sound : (s : State) (pid address byte : ℕ) → IsSound s → IsSound (wrote s pid address byte)
wrote_sound s pid address byte h = access_sound s [] (Write pid address (byte ∷ [])) h

one_sound : IsSound one_process
one_sound = spawn_sound (new_machine two_nodes) 1 100 0 (0 ∷ 1 ∷ []) false (new_sound two_nodes) refl

four_written : (s : State) → IsSound s → IsSound (wrote (wrote (wrote (wrote s 1 A 0x61) 1 B 0x62) 1 C 0x63) 1 D 0x64)
four_written s h = wrote_sound _ 1 D 0x64 (wrote_sound _ 1 C 0x63 (wrote_sound _ 1 B 0x62 (wrote_sound s 1 A 0x61 h)))

three_pages_sound : IsSound three_pages
three_pages_sound = wrote_sound _ 1 C 0x63 (wrote_sound _ 1 B 0x62 (wrote_sound _ 1 A 0x61 (map_sound one_process 1 A 3 false one_sound refl)))

two_addresses_sound : IsSound two_addresses
two_addresses_sound =
    let mapped = map_sound one_process 1 0x20000 1 true one_sound refl in
    let both = attach_sound (map_new one_process 1 0x20000 1 true) 1 0x30000 0 0 1 mapped refl in
    access_sound _ [] (Read 1 0x30000 1) (wrote_sound _ 1 0x20000 0x61 both)

six_pages_sound : IsSound six_pages
six_pages_sound =
    let four = four_written (map_new one_process 1 A 4 false) (map_sound one_process 1 A 4 false one_sound refl) in
    let two = spawn_sound _ 2 200 1 (0 ∷ 1 ∷ []) false four refl in
    wrote_sound _ 2 B 0x66 (wrote_sound _ 2 A 0x65 (map_sound _ 2 A 2 false two refl))

seven_pages_sound : IsSound seven_pages
seven_pages_sound =
    let four = four_written (map_new one_process 1 A 7 false) (map_sound one_process 1 A 7 false one_sound refl) in
    wrote_sound _ 1 0x16000 0x67 (wrote_sound _ 1 0x15000 0x66 (wrote_sound _ 1 E 0x65 four))

attached_sound : IsSound attached_by_two
attached_sound =
    let shared : IsSound shared_page = wrote_sound _ 1 0x20000 0x61 (map_sound one_process 1 0x20000 1 true one_sound refl) in
    attach_sound (with_second shared_page) 2 0x20000 0 0 1 (spawn_sound shared_page 2 200 1 (0 ∷ 1 ∷ []) false shared refl) refl

four_of_five_sound : IsSound four_of_five
four_of_five_sound = four_written (map_new one_process 1 A 5 false) (map_sound one_process 1 A 5 false one_sound refl)

on_two_of_three_sound : IsSound on_two_of_three
on_two_of_three_sound =
    let one = spawn_sound (new_machine three_nodes) 1 100 0 (0 ∷ 1 ∷ 2 ∷ []) false (new_sound three_nodes) refl in
    batch_sound limit _ (to (B ∷ []) 1) [] (wrote_sound _ 1 B 0x62 (wrote_sound _ 1 A 0x61 (map_sound _ 1 A 2 false one refl)))

one_of_each_sound : IsSound one_of_each
one_of_each_sound = pin_sound _ 1 C (wrote_sound _ 1 C 0x61 (access_sound _ [] (Read 1 A 1) (map_sound one_process 1 A 3 false one_sound refl))) refl

pub starts_are_sound : StartsAreSound
starts_are_sound =
    (three_pages_sound, two_addresses_sound, six_pages_sound, seven_pages_sound, attached_sound, access_sound attached_by_two [] (Read 2 0x20000 1) attached_sound, four_of_five_sound, on_two_of_three_sound, one_of_each_sound)
