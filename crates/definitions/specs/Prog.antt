-- The language in which the grammar is written down: what a grammar function may do, as data.
use Rattle.std.specs.Prelude.{ℕ, Bool, List}

-- What a program answers:
--   a test or a take (`silent`, `at`, `eat`, `expect`, end?)   yes: true. no: false.
--   item, a node's body, a property                            yes, whatever happened.
--   cells, propvalues, a cell list                             yes: Ok. no: Err.
--   eat-cell, eat-inside and the other eat-..                  yes: true. no: false, nothing was there.
--   one value (`propvalue`)                                    yes: it was there. no: `?` returned the cell list's Err.
--                                                              also: it was not there, and the loop breaks.
--   a prefix (`eat_node_or_prop_prefix`)                       no: None. yes: Some(false). also: Some(true).
--   a branch, a macro argument                                 yes: up to a continuation, up to a comma.
--                                                              no: up to its end.
--   an expression, its left side                               yes: Ok. no: Err.
--   a turn of a loop or of a chain                             again: go round once more.
--                                                              Any other: the loop's answer.
pub data Ans : Type 0 where
  no yes also again : Ans

-- by an answer: n for no, y for yes and again, a for also
unfoldable pub choose : {A : Type 0} → Ans → A → A → A → A
choose no n y a = n
choose yes n y a = y
choose also n y a = a
choose again n y a = y

-- The functions that document 01 counts while they are open. They call each other in a cycle.
-- propvalues: whether a semicolon ends them (`ending_kinds`). eat-cell: `AT_END`. expr-binding-power: `min_bp`.
pub data Rule : Type 0 where
  item : Rule
  propvalues : Bool → Rule
  eat_cell : Bool → Rule
  expr_binding_power : ℕ → Rule

-- These peek first, and so move the cursor past trivia:
-- silent-at: tests for a set of kinds. at-end: tests for the end of input. bump: takes a token. bump-name: takes a name
-- of a set of kinds.
-- bump-argument: takes a macro argument, up to a comma (yes), or up to a right bracket or the end (no); it peeks before
-- each token.
-- emit: a report with a message and a hint. emit-unclosed: message 7, its label on the brace around. These move
-- nothing:
-- immediate, immediate-next: tests the token at the cursor, or the one after it. add-expected: pushes a pending
-- expectation.
-- less: whether one number is less than another.
pub data Act : Type 0 where
  silent_at : List ℕ → Act
  at_end : Act
  immediate : ℕ → Act
  immediate_next : ℕ → Act
  add_expected : ℕ → Act
  bump : Act
  bump_name : List ℕ → Act
  bump_argument : Act
  emit : ℕ → ℕ → Act
  emit_unclosed : Act
  less : ℕ → ℕ → Act

-- ret k a: answers a; the marker around is completed as a node of kind k, or ignored if k is NO-NODE.
-- p ⨟ q: p, and then q, whose answer counts.
-- case c n y a: c, and then n if it answers no, y if yes or again, a if also.
-- in-marker p: `p.start()`, then p, then the marker is completed or ignored as p's ret says.
-- loop p: p again and again while it answers again and the cursor moved; the last answer is the loop's.
-- chain p q: `p.start()`, then p, and if p answers again, q as in a loop. Each q that rets a kind completes the marker
-- as that kind and precedes it by the next (`complete`, `precede`), so that its node takes in all that the chain made
-- before. The last marker is ignored.
-- brace p: p, whose emit-unclosed puts its label on the token that stands here.
-- open-call r: a call of a counted function, open until it returns. A call of any other function is its program,
-- written in its place.
infixr 20 ◌⨟◌
pub data Prog : Type 0 where
  ret : ℕ → Ans → Prog
  act : Act → Prog
  ◌⨟◌ : Prog → Prog → Prog
  case : Prog → Prog → Prog → Prog → Prog
  in_marker : Prog → Prog
  loop : Prog → Prog
  chain : Prog → Prog → Prog
  brace : Prog → Prog
  open_call : Rule → Prog
