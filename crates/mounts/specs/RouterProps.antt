-- The router of each type of mounts, and what a router is made of, for a struct that keeps it.
use Rattle.records.specs.Words.{ℕ, List, refl, Coded, code_by, coded_ℕ, coded_list, coded×, Text}
use Rattle.std.specs.Coded.{codes}
use Rattle.matchit.specs.Router.{RouteOf}
use Rattle.mounts.specs.declared.mount_type.MountType.{MountType}
use Rattle.mounts.specs.Patterns.{Router, router_of}
use Rattle.mounts.specs.RouteTable.{route_rows}

-- the router of the rows of a type
abbrev pub router_for : MountType → Router
router_for type = router_of (route_rows type)

abbrev bytes : Coded (List ℕ)
bytes = coded_list coded_ℕ

-- a route as its parts
pub route_coded : Coded (RouteOf Text)
route_coded =
    code_by (List ℕ × (List ℕ × (List (ℕ × ℕ) × List ℕ)))
    (coded× bytes (coded× bytes (coded× (coded_list (coded× coded_ℕ coded_ℕ)) bytes)))
    (λ r. (r.pattern, (r.text, (r.names, r.value))))
    (λ t. record { pattern = t.0; text = t.1.0; names = t.1.1.0; value = t.1.1.1 }) (λ _. refl)

pub ruleset router_props = (codes, route_coded)
