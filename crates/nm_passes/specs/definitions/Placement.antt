-- The pages of a range that are not where a policy wants them, and the runs that bring them there.
use Rattle.std.specs.Prelude.{ℕ, Bool, not, List, [], ◌∷◌, map, false}
use Rattle.std.specs.List.{filter}
use Rattle.std.specs.Option.{unwrap_or, option_map}
use Rattle.nm_types.specs.declared.area.Policy.{Policy}
use Rattle.nm_types.specs.declared.area.Policy.TheVariants.{Preferred, Bind, Interleave}
use Rattle.nm_types.specs.Map.{get, page_cmp, same_page}
use Rattle.nm_types.specs.Layout.{node_of}
use Rattle.nm_types.specs.Nodes.{is_in}
use Rattle.nm_types.specs.State.{State}
use Rattle.nm_policy.specs.declared.targets.Destination.{Destination}
use Rattle.nm_model.specs.definitions.Order.{zonelist, follows}
use Rattle.nm_policy.specs.definitions.Turns.{by_turns}
use Rattle.nm_types.specs.declared.request.Wanted.{Wanted}
use Rattle.nm_types.specs.declared.request.Wanted.TheVariants.{At}
use Rattle.nm_model.specs.definitions.Cut.{Request, Stretch, cut_within}
use Rattle.nm_types.specs.declared.located_page.LocatedPage.{LocatedPage}
use Rattle.nm_model.specs.definitions.Seen.{located_between}
use Rattle.nm_passes.specs.declared.binding.Binding.{Binding}
use Rattle.nm_passes.specs.definitions.Listing.{once}
use Rattle.nm_passes.specs.definitions.Passes.{passes}

-- the pages seen from one page number up to another that do not follow a policy, in order of page number
abbrev pub strays_between : State → ℕ → ℕ → ℕ → Policy → List LocatedPage
strays_between s pid first end policy = filter (λ l. not (follows policy l.node)) (located_between s pid first end)

-- the pages seen in the range that do not follow the policy, in address order, each at its lowest address
abbrev pub stray_pages : State → Binding → List LocatedPage
stray_pages s b = once (λ l m. same_page l.page m.page) (strays_between s b.pid b.first b.end b.policy)

-- requests for pages, each at the page number where a process sees it
abbrev pub requests_at : ℕ → Bool → List LocatedPage → List Wanted
requests_at pid all pages = map (λ l. At pid l.vpn all) pages

-- requests for page numbers, each with its node
abbrev pub each_to : ℕ → Bool → List Destination → List Request
each_to pid all targets = map (λ t. record { target = t.to; wanted = At pid t.vpn all }) targets

-- the nodes that a policy tries one after another for all pages; for BIND by distance from a home node
abbrev pub nodes_tried : State → ℕ → Policy → List ℕ
nodes_tried s home (Preferred node) = node ∷ []
nodes_tried s home (Bind nodes) = filter (is_in nodes) (zonelist s.layout s.online home)
nodes_tried s home policy = []

-- the runs that bring pages to where a policy wants them: by turns for INTERLEAVE, in passes for the others
abbrev pub runs_by : ℕ → State → Policy → ℕ → ℕ → Bool → List LocatedPage → List Stretch
runs_by limit s (Interleave nodes) home pid all pages =
    cut_within limit (each_to pid all (by_turns nodes pages))
runs_by limit s policy home pid all pages = passes limit s (nodes_tried s home policy) (requests_at pid all pages)

-- whether a listed page, where it is in this state, does not follow the policy
abbrev pub is_stray : State → Policy → LocatedPage → Bool
is_stray s policy l =
    unwrap_or (option_map (λ frame. not (follows policy (node_of s.layout frame))) (get page_cmp s.place l.page)) false
