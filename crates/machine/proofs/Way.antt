-- A way through a program, step by step, as the code goes it: each step is a call's contract, a test's outcome or a
-- return.
use Prim.Native.Nat.{ℕ, zero, suc, ◌-◌, ◌<◌}
use mathlib.Core.Path.{◌≡◌, refl, sym, ap, ◌∙◌}
use mathlib.Core.Bool.{Bool, true, false, cond}
use mathlib.Core.List.{List}
use native.Mathlib.Omega.{arith}
use Rattle.definitions.specs.Layout.{PLACEHOLDER, START_NODE, TOO_DEEP}
use Rattle.definitions.specs.Token.{Token}
use Rattle.definitions.specs.Skeleton.{Span}
use Rattle.definitions.specs.Prog.{choose, Ans, no, yes, again, Rule, Act, Prog, ret, act, ◌⨟◌, case, in_marker, open_call}
use Rattle.definitions.specs.Grammar.{grammar}
use Rattle.definitions.specs.Run.{truth}
use Rattle.machine.specs.Machine.{Machine, Marker, push, complete, refuse}
use Rattle.machine.specs.Walk.{Walked, said, perform, next_marker, close, marked, walk, walk_rule, walk_prog, unlabelled}

-- p, walked from m, comes to w
pub record Way (ask : Rule → Machine → Walked) (ts : List Token) (b : Span) (p : Prog) (m : Machine) (w : Walked) : Type 0 where
  pub is : w ≡ walk ask ts b p m

-- a marker closed: where it stood at v, w
pub record Closes (k : Marker) (v w : Walked) : Type 0 where
  pub is : w ≡ marked k v

module _ {ask : Rule → Machine → Walked} {ts : List Token} {b : Span} where
  pub c_walk : {p : Prog} {m : Machine} {w : Walked} → w ≡ walk ask ts b p m → Way ask ts b p m w
  c_walk e = record { is = e }

  pub c_act : {a : Act} {m : Machine} {w : Walked} → w ≡ perform ts b a m → Way ask ts b (act a) m w
  unfolding walk
  c_act e = record { is = e }

  pub c_ret : {k : ℕ} {a : Ans} {m : Machine} → Way ask ts b (ret k a) m (record { ans = a; shape = k; on = m })
  unfolding walk
  c_ret = record { is = refl }

  pub c_seq : {p q : Prog} {m : Machine} {v w : Walked} → Way ask ts b p m v → Way ask ts b q v.on w → Way ask ts b (p ⨟ q) m w
  unfolding walk
  c_seq {q = q} e f = record { is = f.is ∙ ap (λ (v : Walked). walk ask ts b q v.on) e.is }

  -- a branch on an answer
  pub c_case : {c n y a : Prog} {m : Machine} {v w : Walked} → Way ask ts b c m v → w ≡ choose v.ans (walk ask ts b n) (walk ask ts b y) (walk ask ts b a) v.on → Way ask ts b (case c n y a) m w
  unfolding walk
  c_case {n = n} {y = y} {a = a} e f =
      record { is = f ∙ ap (λ (v : Walked). choose v.ans (walk ask ts b n) (walk ask ts b y) (walk ask ts b a) v.on) e.is }

  -- a test that held, and one that did not
  pub c_yes : {c n y a : Prog} {m x : Machine} {s : ℕ} {t : Bool} {w : Walked} → Way ask ts b c m (record { ans = truth t; shape = s; on = x }) → t ≡ true → Way ask ts b y x w → Way ask ts b (case c n y a) m w
  unfolding choose
  c_yes {n = n} {y = y} {a = a} {x = x} e h f =
      c_case e (f.is ∙ sym (ap (λ (t : Bool). choose (truth t) (walk ask ts b n) (walk ask ts b y) (walk ask ts b a) x) h))

  pub c_no : {c n y a : Prog} {m x : Machine} {s : ℕ} {t : Bool} {w : Walked} → Way ask ts b c m (record { ans = truth t; shape = s; on = x }) → t ≡ false → Way ask ts b n x w → Way ask ts b (case c n y a) m w
  unfolding choose
  c_no {n = n} {y = y} {a = a} {x = x} e h f =
      c_case e (f.is ∙ sym (ap (λ (t : Bool). choose (truth t) (walk ask ts b n) (walk ask ts b y) (walk ask ts b a) x) h))

  -- an answer told on with a kind
  pub c_told : (t : Bool) {c : Prog} {k : ℕ} {m x : Machine} → Way ask ts b c m (said (truth t) x) → Way ask ts b (case c (ret k no) (ret k yes) (ret k yes)) m (record { ans = truth t; shape = k; on = x })
  c_told true e = c_yes {t = true} e refl c_ret
  c_told false e = c_no {t = false} e refl c_ret

  pub c_again : (t : Bool) {c : Prog} {k : ℕ} {m x : Machine} → Way ask ts b c m (said (truth t) x) → Way ask ts b (case c (ret k yes) (ret k again) (ret k again)) m (record { ans = cond t again yes; shape = k; on = x })
  c_again true e = c_yes {t = true} e refl c_ret
  c_again false e = c_no {t = false} e refl c_ret

  -- the same, past a program that is walked in either case
  pub c_told_past : (t : Bool) {c p : Prog} {k : ℕ} {m x : Machine} {v : Walked} → Way ask ts b c m (said (truth t) x) → Way ask ts b p x v
      → Way ask ts b (case c (p ⨟ ret k no) (p ⨟ ret k yes) (p ⨟ ret k yes)) m (record { ans = truth t; shape = k; on = v.on })
  c_told_past true e f = c_yes {t = true} e refl (c_seq f c_ret)
  c_told_past false e f = c_no {t = false} e refl (c_seq f c_ret)

  -- a marker: x, after it was pushed, and v, where it is closed
  pub c_mark : {p : Prog} {k : Marker} {m x : Machine} {v w : Walked} → k ≡ next_marker START_NODE m → x ≡ push PLACEHOLDER 0 m → Way ask ts b p x v → Closes k v w → Way ask ts b (in_marker p) m w
  unfolding walk
  c_mark {p = p} {k = k} {m = m} {v = v} i e f g =
      record { is = g.is ∙ ap (λ (k : Marker). marked k v) i ∙ ap (marked (next_marker START_NODE m)) (f.is ∙ ap (walk ask ts b p) e) }

-- completed as a node: its kind is not NO-NODE
pub completed : {s : ℕ} {k : Marker} {a : Ans} {m x : Machine} → x ≡ complete k (suc s) m → Closes k (record { ans = a; shape = suc s; on = m }) (said a x)
unfolding marked close
completed {a = a} e = record { is = ap (said a) e }

module _ (n : ℕ) {ts : List Token} where
  pub c_call : {b : Span} {r : Rule} {m : Machine} {w : Walked} → w ≡ walk_rule n ts r m → Way (walk_rule n ts) ts b (open_call r) m w
  unfolding walk
  c_call e = record { is = e }

  -- a function that is held to a program, called or returned from
  pub c_fn : {p : Prog} {m : Machine} {w : Walked} → w ≡ walk_prog n ts unlabelled p m → Way (walk_rule n ts) ts unlabelled p m w
  unfolding walk_prog
  c_fn e = record { is = e }

  pub way : {p : Prog} {m : Machine} {w : Walked} → Way (walk_rule n ts) ts unlabelled p m w → w ≡ walk_prog n ts unlabelled p m
  unfolding walk_prog
  way e = e.is

-- a rule: with no open call to spare, and with some
pub rule_closed : (n : ℕ) (ts : List Token) (r : Rule) (m : Machine) → n ≡ 0 → said no (refuse TOO_DEEP m) ≡ walk_rule n ts r m
unfolding walk_rule
rule_closed n ts r m e = rw e

pub rule_body : (n : ℕ) (ts : List Token) (r : Rule) (m : Machine) → 0 < n → walk_prog (n - 1) ts unlabelled (grammar r) m ≡ walk_rule n ts r m
unfolding walk_rule walk_prog
rule_body zero ts r m h = absurd (omega (arith, h))
rule_body (suc n) ts r m h = let e : suc n - 1 ≡ n = omega arith in rw e
