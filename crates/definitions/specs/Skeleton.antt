-- What a run makes: one skeleton. Events, reports and the tree are all read off it.
-- Places are counted from the end of the file: a mark is the number of raw tokens left, a byte place the number of
-- bytes left.
use Rattle.std.specs.Prelude.{ℕ, List}
use Rattle.definitions.specs.Token.{Token}

pub record Span : Type 0 where
  pub from : ℕ
  pub to : ℕ

-- a second range in a report; only message 7 has one
pub data Label : Type 0 where
  no_label : Label
  label : Span → Label

-- errors.rs: `ParseError`. mark: document 01's mark, the index just past the last token taken.
-- pool: the pending expectations, for message 1.
pub record Report : Type 0 where
  pub message : ℕ
  pub range : Span
  pub mark : ℕ
  pub hint : ℕ
  pub labelled : Label
  pub pool : List ℕ

-- Each piece with what follows it. token: `AddToken`, with the mark after it. name: `AddCombinedToken`, its raw tokens
-- and the mark after it. node k m m' before inside: a completed marker, pushed at mark m and finished at mark m';
-- `before` is the node that it was made to precede (none, but in a chain), and its children are what `before` and
-- `inside` hold. ignored: the same, for an ignored marker. report: `Error`. over: a 65th open call; what follows
-- it is not used.
pub data Skeleton : Type 0 where
  done : Skeleton
  token : Token → ℕ → Skeleton → Skeleton
  name : List Token → ℕ → Skeleton → Skeleton
  node : ℕ → ℕ → ℕ → Skeleton → Skeleton → Skeleton → Skeleton
  ignored : ℕ → ℕ → Skeleton → Skeleton → Skeleton → Skeleton
  report : Report → Skeleton → Skeleton
  over : ℕ → Skeleton → Skeleton

-- one after the other
infixr 30 ◌⧺◌
unfoldable pub ◌⧺◌ : Skeleton → Skeleton → Skeleton
done ⧺ q = q
token t m p ⧺ q = token t m (p ⧺ q)
name ts m p ⧺ q = name ts m (p ⧺ q)
node k m m' a i p ⧺ q = node k m m' a i (p ⧺ q)
ignored m m' a i p ⧺ q = ignored m m' a i (p ⧺ q)
report r p ⧺ q = report r (p ⧺ q)
over m p ⧺ q = over m (p ⧺ q)
