-- A chain of infix operators as the machine sees it: what a turn makes of it, and the links from here on.
use Rattle.std.specs.Prelude.{ℕ, suc, ◌≤◌, ◌≡◌, Bool, cond, List, Option, None, Some, length}
use Rattle.definitions.specs.NodeKind as N
use Rattle.definitions.specs.Errors as E
use Rattle.definitions.specs.Token.{Token}
use Rattle.definitions.specs.Prog.{Ans, yes, again, Prog}
use Rattle.machine.specs.Machine.{Machine, Marker, rest, peek, expect_code}
use Rattle.machine.specs.Walk.{Walked, said, links, unlabelled, walk, walk_rule}
use Rattle.parser.specs.View.{view, toks, tokens_left, marker_of, Same, Way}
use Rattle.parser.specs.declared.Parser.{Parser}
use Rattle.parser.specs.declared.marker.Marker.{Marker as CodeMarker}

-- an infix operator looked for: what is seen is the token at the cursor
abbrev pub look_for_infix : List Token → Machine → Machine
look_for_infix ts m = peek ts (expect_code E.InfixOperator m)

-- what a turn does: whether it took an operator, and whether its right side was parsed
abbrev pub turn_ans : Option Bool → Ans
turn_ans None = yes
turn_ans (Some right) = cond right again yes

abbrev pub turn_shape : Option Bool → ℕ
turn_shape None = N.NO_NODE
turn_shape (Some right) = N.InfixExpr

abbrev pub TurnsWithin : ℕ → Prog → Parser → Option Bool → Parser → Type 0
TurnsWithin n g p t q = Way (walk_rule n) unlabelled None g p (turn_ans t) (turn_shape t) q

-- the links of a chain from here on, with so many open calls allowed
abbrev pub links_from : ℕ → List Token → Prog → Marker → Machine → Walked
links_from n ts q k m = links ts (suc (length (rest ts m))) (walk (walk_rule n ts) ts unlabelled q) k m

-- the links from p on, whose first marker is m, come to q
pub record LinksWithin (n : ℕ) (g : Prog) (m : CodeMarker) (p q : Parser) : Type 0 where
  pub is : said yes (view q) ≡ links_from n (toks p) g (marker_of m) (view p)
  pub same : Same p q
  pub left : tokens_left q ≤ tokens_left p
