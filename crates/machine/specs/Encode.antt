-- Event rows: how the events of a skeleton stand in the lent buffer. A row is a tag of definitions/specs/Layout.antt
-- and two numbers: a start's kind and distance, a name's count of raw tokens and 0, else 0 and 0. A start that another
-- one leads to precedes a completed node.
use Rattle.std.specs.Prelude.{ℕ, suc, Bool, true, false, List, [], ◌∷◌, ◌++◌, length}
use Rattle.definitions.specs.Skeleton.{Skeleton, done, token, name, node, ignored, report, over}
use Rattle.definitions.specs.Event.{forward, events}
use Rattle.definitions.specs.Layout.{PLACEHOLDER, START_NODE, ADD_TOKEN, ADD_COMBINED_TOKEN, FINISH_NODE, ERROR, LINKED_START_NODE}

-- the first number of a node's start: by whether it precedes another
abbrev pub start_tag : Skeleton → ℕ
start_tag done = START_NODE
start_tag (token t m o) = LINKED_START_NODE
start_tag (name ts m o) = LINKED_START_NODE
start_tag (node k m m' a i o) = LINKED_START_NODE
start_tag (ignored m m' a i o) = LINKED_START_NODE
start_tag (report r o) = LINKED_START_NODE
start_tag (over m o) = LINKED_START_NODE

unfoldable pub encode : Bool → Skeleton → List ℕ
unfolding events
encode preceded done = []
encode preceded (token t m o) = ADD_TOKEN ∷ 0 ∷ 0 ∷ encode preceded o
encode preceded (name ts m o) = ADD_COMBINED_TOKEN ∷ length ts ∷ 0 ∷ encode preceded o
encode preceded (node k m m' a i o) =
    encode true a ++ (start_tag a ∷ k ∷ forward preceded (suc (suc (length (events false i))))
    ∷ (encode false i ++ (FINISH_NODE ∷ 0 ∷ 0 ∷ encode preceded o)))
encode preceded (ignored m m' a i o) =
    encode true a ++ (PLACEHOLDER ∷ 0 ∷ 0 ∷ (encode false i ++ (PLACEHOLDER ∷ 0 ∷ 0 ∷ encode preceded o)))
encode preceded (report r o) = ERROR ∷ 0 ∷ 0 ∷ encode preceded o
encode preceded (over m o) = encode preceded o
