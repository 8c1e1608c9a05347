-- Every node kind, message and hint that the grammar names is below 256 (Pools has it of expectations). And what it is
-- for a skeleton to have such codes only.
use Prim.Native.Nat.{ℕ, zero, suc, ◌<◌}
use mathlib.Core.Path.{◌≡◌, refl}
use mathlib.Core.Bool.{Bool, true, false, ◌&&◌}
use mathlib.Core.List.{List, [], ◌∷◌, ◌++◌}
use lib.Dec.{ltb}
use Rattle.definitions.specs.Prog.{Rule, item, propvalues, eat_cell, expr_binding_power, Act, silent_at, at_end, immediate, immediate_next, add_expected, bump, bump_name, bump_argument, emit, emit_unclosed, less, Prog}
use Rattle.definitions.specs.Grammar.{grammar, Entry, SourceFile, ReferenceNoamp, PropValues, Cells, whole}
use Rattle.definitions.specs.Skeleton.{Report, Skeleton, done, token, name, node, ignored, report, over, ◌⧺◌}
use Rattle.definitions.specs.Run.{closed}
use Rattle.laws.proofs.Engine.{only}
use Rattle.bounds.specs.Numbers.{Below}

-- ---------------------------------------------------------------- in programs

abbrev pub CODES : ℕ
CODES = 256

unfoldable pub small_act : Act → Bool
small_act (silent_at ks) = true
small_act at_end = true
small_act (immediate k) = true
small_act (immediate_next k) = true
small_act (add_expected k) = true
small_act bump = true
small_act (bump_name ks) = true
small_act bump_argument = true
small_act (emit m h) = ltb m CODES && ltb h CODES
small_act emit_unclosed = true
small_act (less m n) = true

abbrev pub small_kind : ℕ → Bool
small_kind k = ltb k CODES

unfoldable pub small : Prog → Bool
unfolding only small_act
small p = only small_kind small_act p

pub grammar_small : (r : Rule) → small (grammar r) ≡ true
unfolding small grammar
grammar_small item = refl
grammar_small (propvalues true) = refl
grammar_small (propvalues false) = refl
grammar_small (eat_cell b) = refl
grammar_small (expr_binding_power m) = refl

pub whole_small : (e : Entry) → small (whole e) ≡ true
unfolding small whole
whole_small SourceFile = refl
whole_small ReferenceNoamp = refl
whole_small PropValues = refl
whole_small Cells = refl

-- ---------------------------------------------------------------- in skeletons

pub record ReportCoded (r : Report) : Type 0 where
  pub message : r.message < CODES
  pub hint : r.hint < CODES

unfoldable pub Coded : Skeleton → Type 0
Coded done = Unit {0}
Coded (token t m o) = Coded o
Coded (name ts m o) = Coded o
Coded (node k m m' a i o) = (k < CODES) × Coded a × Coded i × Coded o
Coded (ignored m m' a i o) = Coded a × Coded i × Coded o
Coded (report r o) = ReportCoded r × Coded o
Coded (over m o) = Coded o

pub coded_join : (p q : Skeleton) → Coded p → Coded q → Coded (p ⧺ q)
unfolding Coded ◌⧺◌
coded_join done q h g = g
coded_join (token t m p) q h g = coded_join p q h g
coded_join (name ts m p) q h g = coded_join p q h g
coded_join (node k m m' a i p) q h g = (h.0, h.1, h.2, coded_join p q h.3 g)
coded_join (ignored m m' a i p) q h g = (h.0, h.1, coded_join p q h.2 g)
coded_join (report r p) q h g = (h.0, coded_join p q h.1 g)
coded_join (over m p) q h g = coded_join p q h g

pub coded_closed : (k m m' : ℕ) (a i : Skeleton) → k < CODES → Coded a → Coded i → Coded (closed k m m' a i)
unfolding Coded closed
coded_closed zero m m' a i k h g = (h, g, tt)
coded_closed (suc j) m m' a i k h g = (k, h, g, tt)

pub below_append : (n : ℕ) (l m : List ℕ) → Below n l → Below n m → Below n (l ++ m)
below_append n [] m h g = g
below_append n (x ∷ l) m h g = (h.0, below_append n l m h.1 g)
