-- Where a program may begin, by what is known there: a token is taken where one is there, and a name where one of its
-- set is; a separator is pushed where it is not pending among separators alone (`may_push`); and a program that asserts
-- a token begins where that token is next.
use Prim.Native.Nat.{ℕ}
use mathlib.Core.Bool.{Bool, true, cond, not, ◌&&◌}
use mathlib.Core.List.{[], ◌∷◌}
use lib.Dec.{eqb}
use Rattle.definitions.specs.TokenKind as K
use Rattle.definitions.specs.Prog.{Act, silent_at, immediate, immediate_next, add_expected, bump, bump_name, bump_argument, emit, emit_unclosed, less, Prog, ret, act, ◌⨟◌, case, in_marker, loop, chain, brace, open_call}
use Rattle.definitions.specs.Prog as P
use Rattle.facts.proofs.Known.{Kinds, Known, some, all, kinds_within}
use Rattle.facts.proofs.Facts.{By, each, may_push, Fact}

-- ---------------------------------------------------------------- programs that assert

-- Which of the forms below a program has: 1 bump, 2 add-expected, 3 seq, 4 case, 5 mark, 6 loop, 7 call, 0 any other.
unfoldable pub act_form : Act → ℕ
act_form (silent_at ks) = 0
act_form P.at_end = 0
act_form (immediate k) = 0
act_form (immediate_next k) = 0
act_form (add_expected k) = 2
act_form bump = 1
act_form (bump_name ks) = 0
act_form bump_argument = 0
act_form (emit m h) = 0
act_form emit_unclosed = 0
act_form (less m n) = 0

unfoldable pub form : Prog → ℕ
unfolding act_form
form (ret k a) = 0
form (act a) = act_form a
form (p ⨟ q) = 3
form (case c n y a) = 4
form (in_marker p) = 5
form (loop p) = 6
form (chain p q) = 0
form (brace p) = 0
form (open_call r) = 7

-- the parts of a sequence, and the condition of a case
unfoldable pub fore : Prog → Prog
fore (ret k a) = ret k a
fore (act a) = act a
fore (p ⨟ q) = p
fore (case c n y a) = c
fore (in_marker p) = in_marker p
fore (loop p) = loop p
fore (chain p q) = chain p q
fore (brace p) = brace p
fore (open_call r) = open_call r

unfoldable pub hind : Prog → Prog
hind (ret k a) = ret k a
hind (act a) = act a
hind (p ⨟ q) = q
hind (case c n y a) = case c n y a
hind (in_marker p) = in_marker p
hind (loop p) = loop p
hind (chain p q) = chain p q
hind (brace p) = brace p
hind (open_call r) = open_call r

-- the kind that a program asserts, if it is one of the five that do: told by its form, and of no other form in the
-- grammar
unfoldable pub seq_needs : Prog → Prog → Kinds
unfolding form fore
seq_needs p q =
    cond (eqb (form p) 1 && eqb (form q) 4) (cond (eqb (form (fore q)) 6) (some (K.LAngle ∷ [])) (cond (eqb (form (fore q)) 5) (some (K.Equals ∷ [])) all)) all

-- in a node: bump, then a call and more, or a case whose condition pushes
unfoldable pub node_needs : Prog → Prog → Kinds
unfolding form fore
node_needs p q =
    cond (eqb (form p) 1)
    (cond (eqb (form q) 3 && eqb (form (fore q)) 7) (some (K.LParen ∷ []))
    (cond (eqb (form q) 4 && eqb (form (fore (fore q))) 2) (some (K.Ident ∷ [])) all))
    all

unfoldable pub needs : Prog → Kinds
unfolding seq_needs node_needs fore hind
needs (ret k a) = all
needs (act a) = all
needs (p ⨟ q) = seq_needs p q
needs (case c n y a) = all
needs (in_marker p) = node_needs (fore (fore p)) (hind (fore p))
needs (loop p) = all
needs (chain p q) = all
needs (brace p) = some (K.LCurly ∷ [])
needs (open_call r) = all

-- ---------------------------------------------------------------- what is asked for

-- a token of these kinds is there, if any are asked for
unfoldable pub meets : Kinds → Known → Bool
unfolding kinds_within
meets all d = true
meets (some ks) d = not d.ended && kinds_within d.kinds (some ks)

unfoldable pub token_there : Known → Bool
token_there d = not d.ended

unfoldable pub both_ways : (By → Bool) → Fact → Bool
both_ways g d = g d.fresh && g d.took

unfoldable pub asserts : Kinds → Fact → Bool
unfolding both_ways each meets
asserts all d = true
asserts (some ks) d = both_ways (each (meets (some ks))) d

unfoldable pub may_act : Act → Fact → Bool
unfolding both_ways each token_there may_push asserts
may_act (silent_at ks) d = true
may_act P.at_end d = true
may_act (immediate k) d = true
may_act (immediate_next k) d = true
may_act (add_expected k) d = both_ways (may_push k) d
may_act bump d = both_ways (each token_there) d
may_act (bump_name ks) d = asserts (some ks) d
may_act bump_argument d = true
may_act (emit m h) d = true
may_act emit_unclosed d = true
may_act (less m n) d = true

unfoldable pub may_begin : Prog → Fact → Bool
unfolding may_act asserts needs
may_begin (act a) d = may_act a d
may_begin (ret k a) d = true
may_begin (p ⨟ q) d = asserts (needs (p ⨟ q)) d
may_begin (case c n y a) d = true
may_begin (in_marker p) d = asserts (needs (in_marker p)) d
may_begin (loop p) d = true
may_begin (chain p q) d = true
may_begin (brace p) d = asserts (needs (brace p)) d
may_begin (open_call r) d = true
