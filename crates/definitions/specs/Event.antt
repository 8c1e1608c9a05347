-- event.rs: the events of a skeleton, in the order in which they are pushed.
use Rattle.std.specs.Prelude.{ℕ, suc, Bool, true, false, List, [], ◌∷◌, ◌++◌, length}
use Rattle.definitions.specs.Skeleton.{Skeleton, done, token, name, node, ignored, report, over}

-- StartNode: kind, and the distance to the event of the marker that was made to precede it, or 0 (`forward_parent`)
pub data Event : Type 0 where
  StartNode : ℕ → ℕ → Event
  AddToken : Event
  AddCombinedToken : ℕ → Event
  FinishNode : Event
  Placeholder : Event
  Error : Event

abbrev pub forward : Bool → ℕ → ℕ
forward true n = n
forward false n = 0

-- linked: a marker that comes after the skeleton was made to precede its node, so that the node's start leads on to
-- that marker's
unfoldable pub events : Bool → Skeleton → List Event
events preceded done = []
events preceded (token t m o) = AddToken ∷ events preceded o
events preceded (name ts m o) = AddCombinedToken (length ts) ∷ events preceded o
events preceded (node k m m' a i o) =
    events true a ++ (StartNode k (forward preceded (suc (suc (length (events false i)))))
    ∷ (events false i ++ (FinishNode ∷ events preceded o)))
events preceded (ignored m m' a i o) = events true a ++ (Placeholder ∷ (events false i ++ (Placeholder ∷ events preceded o)))
events preceded (report r o) = Error ∷ events preceded o
events preceded (over m o) = events preceded o
