-- A way through a program, step by step, as the code goes it: each step is a call's contract, a test's outcome or a
-- return. What is known of the lent buffers and of the tokens left goes along, so that one expression answers the whole
-- clause.
use Prim.Native.Nat.{ℕ, zero, suc, ◌-◌, ◌<◌, ◌≤◌}
use mathlib.Core.Path.{◌≡◌, refl, sym, ap, ◌∙◌}
use mathlib.Core.Bool.{Bool, true, false}
use mathlib.Core.List.{List}
use native.Mathlib.Omega.{arith}
use native.Mathlib.Nat.{le_refl}
use lib.ListN.{length, length-drop}
use Rattle.std.specs.Prelude.{Option, None, Some}
use Rattle.basics.proofs.TokenRows.{tokens_length}
use Rattle.definitions.specs.Layout.{START_NODE, PLACEHOLDER, TOO_DEEP}
use Rattle.definitions.specs.NodeKind.{NO_NODE}
use Rattle.definitions.specs.Token.{Token, tokens_of}
use Rattle.definitions.specs.Skeleton.{Span}
use Rattle.definitions.specs.Errors as E
use Rattle.definitions.specs.Prog.{choose, Ans, no, yes, also, again, Rule, Act, emit, emit_unclosed, Prog, ret, act, ◌⨟◌, case, in_marker, loop, brace, open_call}
use Rattle.definitions.specs.Grammar.{grammar}
use Rattle.definitions.specs.Run.{truth, is_again}
use Rattle.machine.specs.Machine.{Machine, push, complete, refuse, range_at}
use Rattle.machine.specs.Machine as M
use Rattle.machine.specs.Walk.{Walked, said, perform, next_marker, close, marked, walk, unlabelled, walk_rule}
use Rattle.machine.proofs.Way.{Way as Step, c_act, c_seq, c_yes, c_no, c_case, c_mark, c_call, rule_closed}
use Rattle.machine.proofs.Turns.{ahead, turn_again, turn_last}
use Rattle.parser.specs.declared.Parser.{Parser}
use Rattle.parser.specs.declared.marker.Marker.{Marker}
use Rattle.parser.specs.declared.errors.TextRange.{TextRange}
use Rattle.parser.specs.View.{view, toks, rest, tokens_left, marker_of, span_of, closed_by, Same, Becomes, Way, Lands, Walks, WalksOn, Closes, ClosesAt, OpensWithin, OpensWithinOn}

-- ---------------------------------------------------------------- the same lent buffers

pub same_self : {p : Parser} → Same p p
same_self = record { tokens = refl; events = refl; reports = refl; pool = refl }

pub same_then : {p q r : Parser} → Same p q → Same q r → Same p r
same_then s t = record { tokens = t.tokens ∙ s.tokens; events = t.events ∙ s.events; reports = t.reports ∙ s.reports; pool = t.pool ∙ s.pool }

pub same_toks : {p q : Parser} → Same p q → toks q ≡ toks p
same_toks s = ap (λ t. tokens_of t.now) s.tokens

-- ---------------------------------------------------------------- steps

-- what is walked from q, with the tokens of p
from : (ask : List Token → Rule → Machine → Walked) (b : Span) {p q : Parser} (h : Prog) → Same p q
    → Step (ask (toks p)) (toks p) b h (view q) (walk (ask (toks q)) (toks q) b h (view q))
from ask b {q = q} h s = record { is = ap (λ (ts : List Token). walk (ask ts) ts b h (view q)) (same_toks s) }

pub falls : {p q r : Parser} → Same p q → Same q r → tokens_left r < tokens_left q → ahead (toks p) (view r) < ahead (toks p) (view q)
unfolding tokens_left
falls {p = p} {q = q} {r = r} s t h =
    omega (arith, length-drop q.cursor.0 (toks p), length-drop r.cursor.0 (toks p), tokens_length p.tokens.now, ap (λ t. length t.now) s.tokens, ap (λ t. length t.now) t.tokens, h)

-- the loop from q is the loop from p
pub record Round (ask : List Token → Rule → Machine → Walked) (b : Span) (g : Prog) (p q : Parser) : Type 0 where
  pub is : walk (ask (toks p)) (toks p) b (loop g) (view q) ≡ walk (ask (toks p)) (toks p) b (loop g) (view p)
  pub same : Same p q
  pub left : tokens_left q ≤ tokens_left p

module _ {ask : List Token → Rule → Machine → Walked} {b : Span} where
  step : {g : Prog} {p q : Parser} {a : Ans} {k : ℕ} → Way ask b None g p a k q → Step (ask (toks p)) (toks p) b g (view p) (record { ans = a; shape = k; on = view q })
  step w = record { is = w.is }

  -- the rest of a way, of which what was before it has been walked
  rest_of : {e : Option M.Marker} {g h : Prog} {p q r : Parser} {a : Ans} {k : ℕ} → Same p q → tokens_left q ≤ tokens_left p
      → Step (ask (toks p)) (toks p) b g (view p) (walk (ask (toks q)) (toks q) b h (view q)) → Way ask b e h q a k r → Way ask b e g p a k r
  rest_of {e = e} s l w v = record { is = v.is ∙ ap (closed_by e) w.is; same = same_then s v.same; left = omega (arith, l, v.left) }

  pub stay : {k : ℕ} {a : Ans} {p : Parser} → Way ask b None (ret k a) p a k p
  unfolding walk
  stay {p = p} = record { is = refl; same = same_self; left = le_refl (tokens_left p) }

  pub opened : {e : Option M.Marker} {g h : Prog} {p q : Parser} {a : Ans} {k : ℕ} → g ≡ h → Way ask b e h p a k q → Way ask b e g p a k q
  opened {e = e} {p = p} i w =
      record { is = w.is ∙ ap (λ (x : Prog). closed_by e (walk (ask (toks p)) (toks p) b x (view p))) (sym i); same = w.same; left = w.left }

  -- an answer that a test has shown to be v
  pub shown : {e : Option M.Marker} {g : Prog} {p q : Parser} {y v : Bool} {k : ℕ} → y ≡ v → Way ask b e g p (truth v) k q → Way ask b e g p (truth y) k q
  shown {q = q} {k = k} i w = record { is = ap (λ (z : Bool). record { ans = truth z; shape = k; on = view q }) i ∙ w.is; same = w.same; left = w.left }

  -- an answer by another name
  pub answers : {e : Option M.Marker} {g : Prog} {p q : Parser} {a v : Ans} {k : ℕ} → a ≡ v → Way ask b e g p a k q → Way ask b e g p v k q
  answers {q = q} {k = k} i w = record { is = ap (λ (z : Ans). record { ans = z; shape = k; on = view q }) (sym i) ∙ w.is; same = w.same; left = w.left }

  -- a brace: its label is the range of the token that stands here
  pub braced : {e : Option M.Marker} {g : Prog} {p q : Parser} {c : Span} {a : Ans} {k : ℕ} → c ≡ range_at (rest p) (view p) → Way ask c e g p a k q → Way ask b e (brace g) p a k q
  unfolding walk
  braced {e = e} {g = g} {p = p} i w = record { is = w.is ∙ ap (λ (c : Span). closed_by e (walk (ask (toks p)) (toks p) c g (view p))) i; same = w.same; left = w.left }

  pub seq : {e : Option M.Marker} {g h : Prog} {p q r : Parser} {a a' : Ans} {k k' : ℕ} → Way ask b None g p a k q → Way ask b e h q a' k' r → Way ask b e (g ⨟ h) p a' k' r
  seq {h = h} v w = rest_of v.same v.left (c_seq (step v) (from ask b h v.same)) w

  -- a test that held, and one that did not
  pub yes_case : {e : Option M.Marker} {c n y x : Prog} {p q r : Parser} {t : Bool} {a : Ans} {k k' : ℕ} → Way ask b None c p (truth t) k q → t ≡ true → Way ask b e y q a k' r
      → Way ask b e (case c n y x) p a k' r
  yes_case {y = y} v i w = rest_of v.same v.left (c_yes (step v) i (from ask b y v.same)) w

  pub no_case : {e : Option M.Marker} {c n y x : Prog} {p q r : Parser} {t : Bool} {a : Ans} {k k' : ℕ} → Way ask b None c p (truth t) k q → t ≡ false → Way ask b e n q a k' r
      → Way ask b e (case c n y x) p a k' r
  no_case {n = n} v i w = rest_of v.same v.left (c_no (step v) i (from ask b n v.same)) w

  -- an answer of more than two
  chosen : {c n y x : Prog} {p q : Parser} {a v : Ans} {k : ℕ} (h : Prog) → Way ask b None c p a k q → a ≡ v
      → ((m : Machine) → walk (ask (toks p)) (toks p) b h m ≡ choose v (walk (ask (toks p)) (toks p) b n) (walk (ask (toks p)) (toks p) b y) (walk (ask (toks p)) (toks p) b x) m)
      → Step (ask (toks p)) (toks p) b (case c n y x) (view p) (walk (ask (toks q)) (toks q) b h (view q))
  chosen {n = n} {y = y} {x = x} {p = p} {q = q} h w i f =
      c_case (step w)
      ((from ask b h w.same).is ∙ f (view q)
      ∙ sym (ap (λ (v : Ans). choose v (walk (ask (toks p)) (toks p) b n) (walk (ask (toks p)) (toks p) b y) (walk (ask (toks p)) (toks p) b x) (view q)) i))

  pub if_no : {e : Option M.Marker} {c n y x : Prog} {p q r : Parser} {v a : Ans} {k k' : ℕ} → Way ask b None c p v k q → v ≡ no → Way ask b e n q a k' r → Way ask b e (case c n y x) p a k' r
  unfolding choose
  if_no {n = n} {y = y} {x = x} w i z = rest_of w.same w.left (chosen {n = n} {y = y} {x = x} n w i (λ m. refl)) z

  pub if_yes : {e : Option M.Marker} {c n y x : Prog} {p q r : Parser} {v a : Ans} {k k' : ℕ} → Way ask b None c p v k q → v ≡ yes → Way ask b e y q a k' r → Way ask b e (case c n y x) p a k' r
  unfolding choose
  if_yes {n = n} {y = y} {x = x} w i z = rest_of w.same w.left (chosen {n = n} {y = y} {x = x} y w i (λ m. refl)) z

  pub if_also : {e : Option M.Marker} {c n y x : Prog} {p q r : Parser} {v a : Ans} {k k' : ℕ} → Way ask b None c p v k q → v ≡ also → Way ask b e x q a k' r → Way ask b e (case c n y x) p a k' r
  unfolding choose
  if_also {n = n} {y = y} {x = x} w i z = rest_of w.same w.left (chosen {n = n} {y = y} {x = x} x w i (λ m. refl)) z

  pub if_again : {e : Option M.Marker} {c n y x : Prog} {p q r : Parser} {v a : Ans} {k k' : ℕ} → Way ask b None c p v k q → v ≡ again → Way ask b e y q a k' r → Way ask b e (case c n y x) p a k' r
  unfolding choose
  if_again {n = n} {y = y} {x = x} w i z = rest_of w.same w.left (chosen {n = n} {y = y} {x = x} y w i (λ m. refl)) z

  -- an answer told on with a kind
  pub told : (t : Bool) {c : Prog} {p q : Parser} {k k' : ℕ} → Way ask b None c p (truth t) k q → Way ask b None (case c (ret k' no) (ret k' yes) (ret k' yes)) p (truth t) k' q
  told true w = yes_case {t = true} w refl stay
  told false w = no_case {t = false} w refl stay

  -- ---------------------------------------------------------------- markers

  -- the caller's marker completed as a node of that kind
  pub finished : {g : Prog} {p q r : Parser} {m : M.Marker} {kind : ℕ} {a : Ans} → 0 < kind → Way ask b None g p a kind q → Becomes (complete m kind) q r → Way ask b (Some m) g p a NO_NODE r
  unfolding marked close
  finished {kind = zero} h w z = absurd (omega (arith, h))
  finished {m = m} {kind = suc n} {a = a} h w z = record { is = ap (said a) z.is ∙ ap (marked m) w.is; same = same_then w.same z.same; left = omega (arith, w.left, z.left) }

  -- the caller's marker ignored
  pub dropped : {g : Prog} {p q r : Parser} {m : M.Marker} {a : Ans} → Way ask b None g p a NO_NODE q → Becomes (push PLACEHOLDER 0) q r → Way ask b (Some m) g p a NO_NODE r
  unfolding marked close
  dropped {m = m} {a = a} w z = record { is = ap (said a) z.is ∙ ap (marked m) w.is; same = same_then w.same z.same; left = omega (arith, w.left, z.left) }

  -- from a marker's start, by what closes it
  pub marker : {g : Prog} {p s r : Parser} {m : M.Marker} {a : Ans} → m ≡ next_marker START_NODE (view p) → Becomes (push PLACEHOLDER 0) p s → Way ask b (Some m) g s a NO_NODE r
      → Way ask b None (in_marker g) p a NO_NODE r
  unfolding marked
  marker {g = g} {m = m} i f w = record { is = (c_mark i f.is (from ask b g f.same) (record { is = w.is })).is; same = same_then f.same w.same; left = omega (arith, f.left, w.left) }

  -- the two together
  pub node : {g : Prog} {p s q r : Parser} {m : M.Marker} {kind : ℕ} {a : Ans} → 0 < kind → m ≡ next_marker START_NODE (view p) → Becomes (push PLACEHOLDER 0) p s
      → Way ask b None g s a kind q → Becomes (complete m kind) q r → Way ask b None (in_marker g) p a NO_NODE r
  node h i f w z = marker i f (finished h w z)

  pub ignored : {g : Prog} {p s q r : Parser} {m : M.Marker} {a : Ans} → m ≡ next_marker START_NODE (view p) → Becomes (push PLACEHOLDER 0) p s
      → Way ask b None g s a NO_NODE q → Becomes (push PLACEHOLDER 0) q r → Way ask b None (in_marker g) p a NO_NODE r
  ignored i f w z = marker i f (dropped w z)

  -- ---------------------------------------------------------------- answers that the code does not know

  pub ends : {g : Prog} {p q : Parser} {a : Ans} {k : ℕ} → Way ask b None g p a k q → Lands ask b g p q
  ends w = record { is = ap (λ (x : Walked). x.on) w.is; same = w.same; left = w.left }

  pub lands : {g : Prog} {p q : Parser} → Lands ask b g p q
      → Way ask b None g p (walk (ask (toks p)) (toks p) b g (view p)).ans (walk (ask (toks p)) (toks p) b g (view p)).shape q
  lands {g = g} {p = p} w =
      let v = walk (ask (toks p)) (toks p) b g (view p) in
      record { is = ap (λ (x : Machine). record { ans = v.ans; shape = v.shape; on = x }) w.is; same = w.same; left = w.left }

  pub ends_opened : {g h : Prog} {p q : Parser} → g ≡ h → Lands ask b h p q → Lands ask b g p q
  ends_opened {p = p} i w = record { is = w.is ∙ ap (λ (x : Prog). (walk (ask (toks p)) (toks p) b x (view p)).on) (sym i); same = w.same; left = w.left }

  -- ---------------------------------------------------------------- loops

  pub round : {g : Prog} {p : Parser} → Round ask b g p p
  round {p = p} = record { is = refl; same = same_self; left = le_refl (tokens_left p) }

  -- a turn's way, with the tokens of p
  turn : {g : Prog} {p q r : Parser} {a : Ans} → Same p q → Way ask b None g q a NO_NODE r → said a (view r) ≡ walk (ask (toks p)) (toks p) b g (view q)
  turn {g = g} s w = w.is ∙ (from ask b g s).is

  -- a turn that answers again and moved the cursor
  pub turns : {g : Prog} {p q r : Parser} → Round ask b g p q → Way ask b None g q again NO_NODE r → tokens_left r < tokens_left q → Round ask b g p r
  turns {g = g} {p = p} {q = q} {r = r} o w h =
      record {
        is = turn_again (ask (toks p)) (toks p) b g (view q) (view r) (turn o.same w) (falls o.same w.same h) ∙ o.is;
        same = same_then o.same w.same;
        left = omega (arith, o.left, w.left);
      }

  -- a turn that ends the loop
  pub stops_yes : {g : Prog} {p q r : Parser} → Round ask b g p q → Way ask b None g q yes NO_NODE r → Way ask b None (loop g) p yes NO_NODE r
  unfolding is_again
  stops_yes {g = g} {p = p} {q = q} {r = r} o w =
      record { is = turn_last (ask (toks p)) (toks p) b g (view q) (view r) yes refl (turn o.same w) ∙ o.is; same = same_then o.same w.same; left = omega (arith, o.left, w.left) }

  pub stops_no : {g : Prog} {p q r : Parser} → Round ask b g p q → Way ask b None g q no NO_NODE r → Way ask b None (loop g) p no NO_NODE r
  unfolding is_again
  stops_no {g = g} {p = p} {q = q} {r = r} o w =
      record { is = turn_last (ask (toks p)) (toks p) b g (view q) (view r) no refl (turn o.same w) ∙ o.is; same = same_then o.same w.same; left = omega (arith, o.left, w.left) }

-- ---------------------------------------------------------------- the clauses

no_calls : List Token → Rule → Machine → Walked
no_calls ts r m = said no m

pub walks : {g : Prog} {p q : Parser} {a : Ans} → ((ask : List Token → Rule → Machine → Walked) (b : Span) → Way ask b None g p a NO_NODE q) → Walks g p a q
walks w = record { way = w; same = (w no_calls unlabelled).same; left = (w no_calls unlabelled).left }

pub walks_on : {g : Prog} {p q : Parser} → ((ask : List Token → Rule → Machine → Walked) (b : Span) → Lands ask b g p q) → WalksOn g p q
walks_on w = record { way = w; same = (w no_calls unlabelled).same; left = (w no_calls unlabelled).left }

pub closes : {m : Marker} {g : Prog} {p q : Parser} {a : Ans} → ((ask : List Token → Rule → Machine → Walked) (b : Span) → Way ask b (Some (marker_of m)) g p a NO_NODE q) → Closes m g p a q
closes w = record { way = w; same = (w no_calls unlabelled).same; left = (w no_calls unlabelled).left }

pub closes_at : {range : TextRange} {m : Marker} {g : Prog} {p q : Parser} {a : Ans} → ((ask : List Token → Rule → Machine → Walked) → Way ask (span_of range) (Some (marker_of m)) g p a NO_NODE q)
    → ClosesAt range m g p a q
closes_at w = record { way = w; same = (w no_calls).same; left = (w no_calls).left }

-- an action
pub acts : {x : Act} {p q : Parser} {a : Ans} → ((b : Span) → said a (view q) ≡ perform (toks p) b x (view p)) → Same p q → tokens_left q ≤ tokens_left p → Walks (act x) p a q
acts i s l = walks (λ ask b. record { is = (c_act (i b)).is; same = s; left = l })

-- a report alone
pub emits : {p q : Parser} {m h : ℕ} → Becomes (M.emit (toks p) m h unlabelled) p q → Walks (act (emit m h)) p yes q
unfolding perform
emits z = acts (λ b. ap (said yes) z.is) z.same z.left

-- the report of a node that is not closed, at its brace
pub emits_unclosed : {ask : List Token → Rule → Machine → Walked} {b : Span} {p q : Parser} → Becomes (M.emit (toks p) E.unclosed_node E.no_hint b) p q → Way ask b None (act emit_unclosed) p yes NO_NODE q
unfolding perform
emits_unclosed z = record { is = (c_act (ap (said yes) z.is)).is; same = z.same; left = z.left }

-- ---------------------------------------------------------------- open calls

pub call : (n : ℕ) {b : Span} {r : Rule} {p q : Parser} {a : Ans} → OpensWithin n r p a q → Way (walk_rule n) b None (open_call r) p a NO_NODE q
call n w = record { is = (c_call n w.is).is; same = w.same; left = w.left }

pub call_on : (n : ℕ) {b : Span} {r : Rule} {p q : Parser} → OpensWithinOn n r p q → Lands (walk_rule n) b (open_call r) p q
unfolding walk
call_on n w = record { is = w.is; same = w.same; left = w.left }

-- a rule: with no open call to spare, and with some
pub closed : {n : ℕ} {r : Rule} {p q : Parser} → n ≡ 0 → Becomes (refuse TOO_DEEP) p q → OpensWithin n r p no q
closed {n = n} {r = r} {p = p} h z = record { is = ap (said no) z.is ∙ rule_closed n (toks p) r (view p) h; same = z.same; left = z.left }

pub closed_on : {n : ℕ} {r : Rule} {p q : Parser} → n ≡ 0 → Becomes (refuse TOO_DEEP) p q → OpensWithinOn n r p q
closed_on {n = n} {r = r} {p = p} h z = record { is = z.is ∙ ap (λ (x : Walked). x.on) (rule_closed n (toks p) r (view p) h); same = z.same; left = z.left }

pub body : {n : ℕ} {r : Rule} {p q : Parser} {a : Ans} → 0 < n → Way (walk_rule (n - 1)) unlabelled None (grammar r) p a NO_NODE q → OpensWithin n r p a q
unfolding walk_rule
body {n = zero} h w = absurd (omega (arith, h))
body {n = suc n} {r = r} {p = p} h w =
    let e : suc n - 1 ≡ n = omega arith in
    record { is = w.is ∙ ap (λ (x : ℕ). walk (walk_rule x (toks p)) (toks p) unlabelled (grammar r) (view p)) e; same = w.same; left = w.left }

pub body_on : {n : ℕ} {r : Rule} {p q : Parser} → 0 < n → Lands (walk_rule (n - 1)) unlabelled (grammar r) p q → OpensWithinOn n r p q
unfolding walk_rule
body_on {n = zero} h w = absurd (omega (arith, h))
body_on {n = suc n} {r = r} {p = p} h w =
    let e : suc n - 1 ≡ n = omega arith in
    record { is = w.is ∙ ap (λ (x : ℕ). (walk (walk_rule x (toks p)) (toks p) unlabelled (grammar r) (view p)).on) e; same = w.same; left = w.left }
