-- Event rows as the sink reads them: three numbers each, a tag and what goes with it. `encode` (crates/machine) gives
-- those of a skeleton.
use Rattle.std.specs.Prelude.{ℕ, ◌≡◌, cond, List, [], ◌∷◌, eqb}
use Rattle.definitions.specs.Layout.{START_NODE, ADD_TOKEN, ADD_COMBINED_TOKEN, FINISH_NODE, ERROR, LINKED_START_NODE}
use Rattle.definitions.specs.Skeleton.{Skeleton, done, token, name, node, ignored, report, over}
use Rattle.definitions.specs.Event.{Event, StartNode, AddToken, AddCombinedToken, FinishNode, Placeholder, Error}

-- an event row before others
abbrev pub event_row : ℕ → ℕ → ℕ → List ℕ → List ℕ
event_row tag a b l = tag ∷ a ∷ b ∷ l

-- ---------------------------------------------------------------- and back

unfoldable pub event_of : ℕ → ℕ → ℕ → Event
event_of tag a b =
    cond (eqb tag START_NODE) (StartNode a b)
    (cond (eqb tag LINKED_START_NODE) (StartNode a b)
    (cond (eqb tag ADD_TOKEN) AddToken
    (cond (eqb tag ADD_COMBINED_TOKEN) (AddCombinedToken a)
    (cond (eqb tag FINISH_NODE) FinishNode (cond (eqb tag ERROR) Error Placeholder)))))

-- the events that rows say; numbers that make no whole row say none
unfoldable pub decode : List ℕ → List Event
unfolding event_of
decode [] = []
decode (tag ∷ []) = []
decode (tag ∷ a ∷ []) = []
decode (tag ∷ a ∷ b ∷ l) = event_of tag a b ∷ decode l

-- ---------------------------------------------------------------- chains

-- What a marker is made to precede is one node: `before` holds that node alone, or nothing. Every run's skeleton is
-- such.
abbrev pub Alone : Skeleton → Type 0
Alone done = Unit {0}
Alone (token t m o) = ⊥
Alone (name ts m o) = ⊥
Alone (node k m m' a i o) = o ≡ done
Alone (ignored m m' a i o) = ⊥
Alone (report r o) = ⊥
Alone (over m o) = ⊥

unfoldable pub Chained : Skeleton → Type 0
Chained done = Unit {0}
Chained (token t m o) = Chained o
Chained (name ts m o) = Chained o
Chained (node k m m' a i o) = Alone a × (Chained a × (Chained i × Chained o))
Chained (ignored m m' a i o) = Alone a × (Chained a × (Chained i × Chained o))
Chained (report r o) = Chained o
Chained (over m o) = Chained o
