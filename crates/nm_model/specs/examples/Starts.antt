-- The states that the worked examples start from.
use Rattle.nm_model.specs.definitions.Sound.{IsSound}
use Rattle.nm_model.specs.examples.{three_pages, two_addresses, six_pages, seven_pages, seen_by_two, attached_by_two, four_of_five, on_two_of_three}
use Rattle.nm_model.specs.examples.Unmapping.{one_of_each}

-- each is sound, so that the laws apply to it
abbrev pub StartsAreSound : Type 0
StartsAreSound =
    IsSound three_pages × IsSound two_addresses × IsSound six_pages × IsSound seven_pages × IsSound attached_by_two
    × IsSound seen_by_two × IsSound four_of_five × IsSound on_two_of_three × IsSound one_of_each
