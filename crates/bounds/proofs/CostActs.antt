-- What each action costs.
use Prim.Native.Nat.{ℕ, zero, suc, ◌+◌, ◌-◌, ◌*◌, ◌≤◌, zero-le, suc-le-suc}
use native.Mathlib.Nat.{le_trans, le_refl, mul-le-mul_left}
use native.Mathlib.Omega.{arith}
use mathlib.Core.Path.{◌≡◌, refl, ap, sym, ◌∙◌, subst}
use mathlib.Core.Bool.{Bool, true, false, true≢false}
use mathlib.Core.List.{List, [], ◌∷◌}
use lib.Dec.{ltb, eqb}
use lib.ListN.{length, length-append}
use Rattle.definitions.specs.TokenKind as K
use Rattle.definitions.specs.Token.{Token, trivia, drop_trivia, ended, past, first_in}
use Rattle.definitions.specs.Skeleton.{Label, done, token, ◌⧺◌}
use Rattle.definitions.specs.Once.{pushed_once}
use Rattle.definitions.specs.Prog.{Ans, no, yes, Rule, Act, silent_at, at_end, immediate, immediate_next, add_expected, bump, bump_name, bump_argument, emit, emit_unclosed, less, act}
use Rattle.definitions.specs.Run.{State, Out, peeked, truth, replies, makes, taken, do_bump, stretch_of, do_name, add, at_depth, do_argument, do_emit, do_expected, perform}
use Rattle.basics.proofs.Tests.{cond-all}
use Rattle.laws.proofs.Trivia.{drop_twice, drop_trivia_length}
use Rattle.laws.proofs.Kept.{run_of_split}
use Rattle.laws.proofs.FactsHold.{first_there}
use Rattle.bounds.proofs.Row.{Key, still, there, took, Row, get, at, ◌⊔◌, tab}
use Rattle.bounds.proofs.Cost.{Price, Bill, here, fee, act_row, bill}
use Rattle.bounds.proofs.RowLaws.{glue_less}
use Rattle.bounds.proofs.Paid.{Known, Holds, cost, Paid, Fits, widen, weaken, after, or_left, or_right, fits_at, here_paid, Sound}

run_of_length : (ks : List ℕ) (ts : List Token) → length (stretch_of ks ts).after ≤ length ts
run_of_length ks ts = omega (arith, simp length-append at (ap length (run_of_split ks ts)))

module _ (w : Price) (one : 1 ≤ w.base) (worth : w.leaf ≤ w.credit) where
  -- ---------------------------------------------------------------- peeking

  peek_known : (d : Bool) (s : State) → Known d s → Known d (peeked s)
  unfolding peeked
  peek_known false s k = tt
  peek_known true s k = ap ended (drop_twice s.rest) ∙ k

  peek_holds : (d : Bool) (n : ℕ) (s : State) → Known d s → Holds (here d) n s
  peek_holds false n s k = tt
  peek_holds true n s k = k

  -- the cursor may have moved past trivia; so much was paid
  peek_paid : (d : Bool) (s : State) (n : ℕ) → Known d s → Paid w (here d) (n + w.base) s (peeked s) n
  unfolding peeked
  peek_paid d s n k =
      let l : length (drop_trivia s.rest) ≤ length s.rest = drop_trivia_length s.rest in
      record { steps = length s.rest - length (drop_trivia s.rest); left = omega arith; holds = peek_holds d _ (peeked s) (peek_known d s k); can = omega arith; enough = omega arith }

  -- nothing paid, and still there
  peek_here : (d : Bool) (s : State) → Known d s → Paid w (here d) w.base s (peeked s) 0
  peek_here d s k = weaken w (omega arith) (peek_paid d s 0 k)

  -- a token or a name taken, and ts left
  take_paid : (s : State) (ts : List Token) (n : ℕ) → suc (length ts) ≤ length s.rest → n ≡ w.leaf → Paid w took (fee w) s (taken ts) n
  take_paid s ts n h e =
      let c : w.credit * 1 ≤ w.credit * (length s.rest - length ts) = mul-le-mul_left w.credit (omega arith) in
      record { steps = length s.rest - length ts; left = omega arith; holds = omega arith; can = omega arith; enough = omega arith }

  -- ---------------------------------------------------------------- taking

  some : (s : State) (t : Token) (ts : List Token) → t ∷ ts ≡ drop_trivia s.rest → suc (length ts) ≤ length s.rest
  some s t ts e = subst (λ (u : List Token). length u ≤ length s.rest) (sym e) (drop_trivia_length s.rest)

  bump_fits : (d : Bool) (s : State) (l : List Token) → l ≡ drop_trivia s.rest → Known d s → Fits w (get (act_row w bump d) (do_bump (peeked s) l).ans) s (do_bump (peeked s) l).state (cost w (do_bump (peeked s) l).made)
  unfolding do_bump replies makes act_row cost
  bump_fits false s [] e k = or_left w (at yes still w.base) (at yes took (fee w)) yes (fits_at w yes (peek_here false s tt))
  bump_fits true s [] e k = absurd (true≢false (ap ended e ∙ k))
  bump_fits false s (t ∷ ts) e k = or_right w (at yes still w.base) (at yes took (fee w)) yes (fits_at w yes (take_paid s ts _ (some s t ts e) (omega arith)))
  bump_fits true s (t ∷ ts) e k = fits_at w yes (take_paid s ts _ (some s t ts e) (omega arith))

  name_fits : (ks : List ℕ) (d : Bool) (s : State) (l : List Token) → l ≡ drop_trivia s.rest → Known d s → Fits w (get (act_row w (bump_name ks) d) (do_name ks (peeked s) l).ans) s (do_name ks (peeked s) l).state (cost w (do_name ks (peeked s) l).made)
  unfolding do_name replies makes act_row cost
  name_fits ks false s [] e k = or_left w (at yes still w.base) (at yes took (fee w)) yes (fits_at w yes (peek_here false s tt))
  name_fits ks true s [] e k = absurd (true≢false (ap ended e ∙ k))
  name_fits ks false s (t ∷ ts) e k = or_right w (at yes still w.base) (at yes took (fee w)) yes (fits_at w yes (take_paid s (stretch_of ks ts).after _ (le_trans (suc-le-suc (run_of_length ks ts)) (some s t ts e)) (omega arith)))
  name_fits ks true s (t ∷ ts) e k = fits_at w yes (take_paid s (stretch_of ks ts).after _ (le_trans (suc-le-suc (run_of_length ks ts)) (some s t ts e)) (omega arith))

  -- ---------------------------------------------------------------- a macro argument

  abbrev X : Key → ℕ
  X still = w.base
  X there = 0
  X took = fee w

  -- it answers yes or no, and its tokens pay for themselves
  record Argued (s : State) (o : Out) : Type 0 where
    told : Bool
    says : o.ans ≡ truth told
    fits : Fits w X s o.state (cost w o.made)

  low : (κ : Key) → X κ ≤ w.base
  low still = le_refl _
  low there = zero-le
  low took = omega arith

  stay_fits : (b : Bool) (s s' : State) → length s'.rest ≤ length s.rest → Argued s (replies (truth b) s')
  unfolding replies cost
  stay_fits b s s' h = record { told = b; says = refl; fits = record { key = still; paid = record { steps = length s.rest - length s'.rest; left = omega arith; holds = tt; can = one; enough = omega arith } } }

  go_fits : (s : State) (t : Token) (ts : List Token) (o : Out) → suc (length ts) ≤ length s.rest → Argued (taken ts) o → Argued s (add (makes yes (token t (length ts) done) (taken ts)) o)
  unfolding add makes cost ◌⧺◌
  go_fits s t ts o h p =
      record {
        told = p.told;
        says = p.says;
        fits = record { key = took; paid = weaken w (glue_less w.base (fee w) w.base (le_refl _)) (after w (take_paid s ts w.leaf h refl) (weaken w (low p.fits.key) p.fits.paid)) };
      }

  depth_fits : (s : State) (n : ℕ) (o : Out) (f : ℕ → Out) → Argued s o → ((m : ℕ) → Argued s (f m)) → Argued s (at_depth n o f)
  unfolding at_depth
  depth_fits s zero o f p q = p
  depth_fits s (suc n) o f p q = q n

  argument_fits : (n : ℕ) (s : State) (ts : List Token) → length ts ≤ length s.rest → Argued s (do_argument n s ts)
  unfolding do_argument
  argument_fits n s [] e = stay_fits false s (record { rest = []; since = s.since; pending = s.pending }) zero-le
  argument_fits n s (t ∷ ts) e =
      let go : (m : ℕ) → Argued s (add (makes yes (token t (length ts) done) (taken ts)) (do_argument m (taken ts) ts)) = λ m. go_fits s t ts (do_argument m (taken ts) ts) e (argument_fits m (taken ts) ts (le_refl _)) in
      let stay : (b : Bool) → Argued s (replies (truth b) (record { rest = t ∷ ts; since = s.since; pending = s.pending })) = λ b. stay_fits b s (record { rest = t ∷ ts; since = s.since; pending = s.pending }) e in
      cond-all (Argued s) (trivia t) (argument_fits n s ts (omega arith))
      (cond-all (Argued s) (eqb t.kind K.LParen) (go (suc n))
      (cond-all (Argued s) (eqb t.kind K.RParen) (depth_fits s n _ _ (stay false) go)
      (cond-all (Argued s) (eqb t.kind K.Comma) (depth_fits s n _ _ (stay true) (λ m. go (suc m))) (go n))))

  argued : (b d : Bool) (κ : Key) → X κ ≤ get (act_row w bump_argument d) (truth b) κ
  unfolding act_row at ◌⊔◌ tab
  argued false d still = omega arith
  argued false d there = zero-le
  argued false d took = omega arith
  argued true d still = omega arith
  argued true d there = zero-le
  argued true d took = omega arith

  -- ---------------------------------------------------------------- every action

  asked : (f : Row) (b : Bool) {s s' : State} {n : ℕ} → (b ≡ false → Fits w (get f no) s s' n) → (b ≡ true → Fits w (get f yes) s s' n) → Fits w (get f (truth b)) s s' n
  asked f true p q = q refl
  asked f false p q = p refl

  -- a test that moves nothing
  idle : (d b : Bool) (s : State) → Known d s → Fits w (get (at no (here d) w.base ⊔ at yes (here d) w.base) (truth b)) s s 0
  idle d b s k = asked _ b (λ _. or_left w _ _ no (fits_at w no (here_paid w d s one k))) (λ _. or_right w _ _ yes (fits_at w yes (here_paid w d s one k)))

  end_fits : (d : Bool) (s : State) → Known d s → Fits w (get (act_row w at_end d) (truth (ended (peeked s).rest))) s (peeked s) 0
  unfolding act_row peeked
  end_fits false s k = asked _ (ended (drop_trivia s.rest)) (λ e. or_left w (at no there w.base) (at yes still w.base) no (fits_at w no (peek_here true s e))) (λ _. or_right w (at no there w.base) (at yes still w.base) yes (fits_at w yes (peek_here false s tt)))
  end_fits true s k = asked _ (ended (drop_trivia s.rest)) (λ e. fits_at w no (peek_here true s e)) (λ e. absurd (true≢false (sym e ∙ k)))

  -- the cursor stays
  expected_paid : (d : Bool) (s : State) (l : List ℕ) → Known d s → Paid w (here d) w.base s (record { rest = s.rest; since = s.since; pending = l }) 0
  expected_paid false s l k = record { steps = 0; left = omega arith; holds = tt; can = one; enough = omega arith }
  expected_paid true s l k = record { steps = 0; left = omega arith; holds = k; can = one; enough = omega arith }

  act_fits : (b : Label) (a : Act) (d : Bool) (s : State) → Known d s → Fits w (get (act_row w a d) (perform b a s).ans) s (perform b a s).state (cost w (perform b a s).made)
  unfolding act_row perform peeked replies makes do_expected do_emit cost
  act_fits b (silent_at ks) d s k = asked _ (first_in ks (drop_trivia s.rest)) (λ _. or_left w (at no (here d) w.base) (at yes there w.base) no (fits_at w no (peek_here d s k))) (λ e. or_right w (at no (here d) w.base) (at yes there w.base) yes (fits_at w yes (peek_here true s (first_there ks (drop_trivia s.rest) e))))
  act_fits b at_end d s k = end_fits d s k
  act_fits b (immediate x) d s k = idle d (first_in (x ∷ []) s.rest) s k
  act_fits b (immediate_next x) d s k = idle d (first_in (x ∷ []) (past s.rest)) s k
  act_fits b (add_expected x) d s k = fits_at w yes (expected_paid d s (pushed_once x s.pending) k)
  act_fits b bump d s k = bump_fits d s (drop_trivia s.rest) refl k
  act_fits b (bump_name ks) d s k = name_fits ks d s (drop_trivia s.rest) refl k
  act_fits b bump_argument d s k =
      let p = argument_fits 0 s s.rest (le_refl _) in
      subst (λ (a : Ans). Fits w (get (act_row w bump_argument d) a) s (do_argument 0 s s.rest).state (cost w (do_argument 0 s s.rest).made)) (sym p.says) (widen w (argued p.told d) p.fits)
  act_fits b (emit m h) d s k = fits_at w yes (weaken w (omega arith) (peek_paid d s (w.report + 0) k))
  act_fits b emit_unclosed d s k = fits_at w yes (weaken w (omega arith) (peek_paid d s (w.report + 0) k))
  act_fits b (less m n) d s k = idle d (ltb m n) s k

  pub acts : (t : Rule → Bill) (b : Label) (a : Act) → Sound w (bill w t (act a)) (perform b a)
  unfolding bill
  acts t b a false s k = act_fits b a false s k
  acts t b a true s k = act_fits b a true s k
