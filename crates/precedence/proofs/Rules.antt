-- Programs step by step: tests, which make nothing; and, as long as no limit is exceeded, a token taken, a sequence, a
-- branch, a marker.
use Prim.Native.Nat.{ℕ}
use mathlib.Core.Path.{◌≡◌, refl, sym, ◌∙◌, ap, subst}
use mathlib.Core.Bool.{Bool}
use mathlib.Core.List.{List, [], ◌∷◌}
use lib.Dec.{ltb}
use lib.ListN.{length}
use Rattle.definitions.specs.Token.{Token, drop_trivia, first_in}
use Rattle.definitions.specs.Prog.{choose, Ans, no, yes, also, again, Rule, silent_at, immediate, add_expected, bump, less, Prog, ret, act, ◌⨟◌, case, in_marker}
use Rattle.definitions.specs.Check.{push_all}
use Rattle.definitions.specs.Skeleton.{Label, done, token, ◌⧺◌}
use Rattle.definitions.specs.Run.{State, Out, mark_of, peeked, truth, replies, makes, taken, do_bump, add, do_expected, perform, marked, exec}
use Rattle.definitions.specs.Report.{pushes}
use Rattle.laws.proofs.Trivia.{passes_drop}
use Rattle.laws.proofs.Kept.{Stands, expecting, stands_peeked}
use Rattle.laws.specs.Pushes.{NoneExceeded}
use Rattle.precedence.proofs.Pushed.{clear_first, clear_second, clear_inside}

-- the branch that an answer takes
abbrev pub pick : Ans → Prog → Prog → Prog → Prog
pick no n y a = n
pick yes n y a = y
pick also n y a = a
pick again n y a = y

-- where a peek comes to
pub ahead : (s : State) → Stands s → drop_trivia s.rest ≡ drop_trivia s.since
ahead s h = sym (passes_drop s.since s.rest h.passed)

-- a token taken
abbrev pub took : Token → List Token → Out
took t ts = makes yes (token t (length ts) done) (taken ts)

-- from the state that a test leaves on
abbrev pub Onward : State → (State → Type 0) → Type 0
Onward s P = (to : State) → Stands to → to.since ≡ s.since → P to

module _ (ask : Rule → State → Out) (b : Label) where
  -- what a run satisfies, if it exceeds no limit
  pub record Ends (p : Prog) (s : State) (Q : Out → Type 0) : Type 0 where
    pub holds : NoneExceeded (pushes (exec ask b p s).made) → Q (exec ask b p s)

  choose_pick : (x : Ans) (n y a : Prog) (s : State) → choose x (exec ask b n) (exec ask b y) (exec ask b a) s ≡ exec ask b (pick x n y a) s
  unfolding choose
  choose_pick no n y a s = refl
  choose_pick yes n y a s = refl
  choose_pick also n y a s = refl
  choose_pick again n y a s = refl

  exec_case : (c n y a : Prog) (s : State)
      → exec ask b (case c n y a) s ≡ add (exec ask b c s) (exec ask b (pick (exec ask b c s).ans n y a) (exec ask b c s).state)
  unfolding exec
  exec_case c n y a s = ap (add (exec ask b c s)) (choose_pick (exec ask b c s).ans n y a (exec ask b c s).state)

  -- ---------------------------------------------------------------- sequences, branches, markers

  pub ends_map : {p : Prog} {s : State} {P Q : Out → Type 0} → Ends p s P → ((o : Out) → P o → Q o) → Ends p s Q
  ends_map {p} {s} h g = record { holds = λ c. g (exec ask b p s) (h.holds c) }

  -- whatever it comes to
  pub ends_any : {p : Prog} {s : State} {Q : Out → Type 0} → ((o : Out) → Q o) → Ends p s Q
  ends_any {p} {s} h = record { holds = λ c. h (exec ask b p s) }

  pub seq : {p q : Prog} {s : State} {P Q : Out → Type 0} → Ends p s P → ((o : Out) → P o → Ends q o.state (λ o'. Q (add o o'))) → Ends (p ⨟ q) s Q
  unfolding exec add
  seq {p} {q} {s} h g =
      let o : Out = exec ask b p s in
      let o' : Out = exec ask b q o.state in
      record { holds = λ c. (g o (h.holds (clear_first o.made o'.made c))).holds (clear_second o.made o'.made c) }

  pub branch : {c n y a : Prog} {s : State} {P Q : Out → Type 0} → Ends c s P
      → ((o : Out) → P o → Ends (pick o.ans n y a) o.state (λ o'. Q (add o o'))) → Ends (case c n y a) s Q
  unfolding add
  branch {c} {n} {y} {a} {s} {P} {Q} h g =
      let o : Out = exec ask b c s in
      let o' : Out = exec ask b (pick o.ans n y a) o.state in
      record {
        holds =
            subst (λ (x : Out). NoneExceeded (pushes x.made) → Q x) (sym (exec_case c n y a s))
            (λ z. (g o (h.holds (clear_first o.made o'.made z))).holds (clear_second o.made o'.made z));
      }

  pub inside : {p : Prog} {s : State} {Q : Out → Type 0} → Ends p s (λ o. Q (marked s o)) → Ends (in_marker p) s Q
  unfolding exec marked makes
  inside {p} {s} h =
      let o : Out = exec ask b p s in
      record { holds = λ c. h.holds (clear_inside o.shape (mark_of s) (mark_of o.state) done o.made c) }

  pub ends_ret : {k : ℕ} {a : Ans} {s : State} {Q : Out → Type 0} → Q (record { ans = a; shape = k; made = done; state = s }) → Ends (ret k a) s Q
  unfolding exec
  ends_ret h = record { holds = λ c. h }

  -- ---------------------------------------------------------------- tests

  -- it answers a, makes nothing and takes nothing
  pub record Tests (p : Prog) (s : State) (a : Ans) : Type 0 where
    pub to : State
    pub is : exec ask b p s ≡ replies a to
    pub stands : Stands to
    pub since_is : to.since ≡ s.since

  pub test_seq : {p q : Prog} {s : State} {a a' : Ans} → Tests p s a → Onward s (λ to. Tests q to a') → Tests (p ⨟ q) s a'
  unfolding exec add replies ◌⧺◌
  test_seq {p} {q} {s} {a} {a'} t g =
      let u : Tests q t.to a' = g t.to t.stands t.since_is in
      record {
        to = u.to;
        is = ap (λ (o : Out). add o (exec ask b q o.state)) t.is ∙ u.is;
        stands = u.stands;
        since_is = u.since_is ∙ t.since_is;
      }

  pub after_test : {p q : Prog} {s : State} {a : Ans} {Q : Out → Type 0} → Tests p s a → Onward s (λ to. Ends q to Q) → Ends (p ⨟ q) s Q
  unfolding exec add replies ◌⧺◌
  after_test {p} {q} {s} {a} {Q} t g =
      let f : Out → Out = λ o. add o (exec ask b q o.state) in
      record { holds = subst (λ (o : Out). NoneExceeded (pushes (f o).made) → Q (f o)) (sym t.is) (g t.to t.stands t.since_is).holds }

  pub on_test : {c n y z : Prog} {s : State} {a : Ans} {Q : Out → Type 0} → Tests c s a → Onward s (λ to. Ends (pick a n y z) to Q) → Ends (case c n y z) s Q
  unfolding add replies ◌⧺◌
  on_test {c} {n} {y} {z} {s} {a} {Q} t g =
      let f : Out → Out = λ o. add o (exec ask b (pick o.ans n y z) o.state) in
      record {
        holds =
            subst (λ (x : Out). NoneExceeded (pushes x.made) → Q x) (sym (exec_case c n y z s ∙ ap f t.is))
            (g t.to t.stands t.since_is).holds;
      }

  pub test_case : {c n y z : Prog} {s : State} {a a' : Ans} → Tests c s a → Onward s (λ to. Tests (pick a n y z) to a') → Tests (case c n y z) s a'
  unfolding add replies ◌⧺◌
  test_case {c} {n} {y} {z} {s} {a} {a'} t g =
      let f : Out → Out = λ o. add o (exec ask b (pick o.ans n y z) o.state) in
      let u : Tests (pick a n y z) t.to a' = g t.to t.stands t.since_is in
      record { to = u.to; is = exec_case c n y z s ∙ ap f t.is ∙ u.is; stands = u.stands; since_is = u.since_is ∙ t.since_is }

  pub test_tell : {a : Ans} {s : State} → Stands s → Tests (ret 0 a) s a
  unfolding exec replies
  test_tell {a} {s} h = record { to = s; is = refl; stands = h; since_is = refl }

  pub test_silent : {ks : List ℕ} {s : State} (l : List Token) → Stands s → drop_trivia s.since ≡ l → Tests (act (silent_at ks)) s (truth (first_in ks l))
  unfolding exec perform peeked replies
  test_silent {ks} {s} l h e =
      record {
        to = peeked s;
        is = ap (λ (r : List Token). replies (truth (first_in ks r)) (peeked s)) (ahead s h ∙ e);
        stands = stands_peeked s h;
        since_is = refl;
      }

  -- a test that is known to come out so
  pub silent_is : {ks : List ℕ} {s : State} (l : List Token) (x : Bool) → Stands s → drop_trivia s.since ≡ l → first_in ks l ≡ x
      → Tests (act (silent_at ks)) s (truth x)
  silent_is {ks} {s} l x h e g = subst (λ (y : Bool). Tests (act (silent_at ks)) s (truth y)) g (test_silent l h e)

  pub test_less : {m n : ℕ} {s : State} → Stands s → Tests (act (less m n)) s (truth (ltb m n))
  unfolding exec perform replies
  test_less {s = s} h = record { to = s; is = refl; stands = h; since_is = refl }

  -- the token at the cursor
  pub test_immediate : {k : ℕ} {s : State} → Stands s → Tests (act (immediate k)) s (truth (first_in (k ∷ []) s.rest))
  unfolding exec perform replies
  test_immediate {s = s} h = record { to = s; is = refl; stands = h; since_is = refl }

  pub test_expected : {k : ℕ} {s : State} → Stands s → Tests (act (add_expected k)) s yes
  unfolding exec perform do_expected
  test_expected {k} {s} h = record { to = expecting s k; is = refl; stands = record { passed = h.passed }; since_is = refl }

  -- a loud test of a kind
  pub loud_is : {k : ℕ} {s : State} {ks : List ℕ} (l : List Token) (x : Bool) → Stands s → drop_trivia s.since ≡ l → first_in ks l ≡ x
      → Tests (act (add_expected k) ⨟ act (silent_at ks)) s (truth x)
  loud_is l x h e g = test_seq (test_expected h) (λ to st si. silent_is l x st (ap drop_trivia si ∙ e) g)

  pub test_push_all : (ks : List ℕ) {s : State} → Stands s → Tests (push_all ks) s yes
  test_push_all [] h = test_tell h
  test_push_all (k ∷ ks) h = test_seq (test_expected h) (λ to g e. test_push_all ks g)

  -- ---------------------------------------------------------------- a token taken

  pub bump_is : (s : State) (t : Token) (ts : List Token) → Stands s → drop_trivia s.since ≡ t ∷ ts → exec ask b (act bump) s ≡ took t ts
  unfolding exec perform do_bump peeked
  bump_is s t ts h e = ap (do_bump (peeked s)) (ahead s h ∙ e)

  pub after_bump : {q : Prog} {s : State} {Q : Out → Type 0} (t : Token) (ts : List Token) → Stands s → drop_trivia s.since ≡ t ∷ ts
      → Ends q (taken ts) (λ o. Q (add (took t ts) o)) → Ends (act bump ⨟ q) s Q
  unfolding exec add makes
  after_bump {q} {s} {Q} t ts h e g =
      record {
        holds =
            subst (λ (o : Out). NoneExceeded (pushes (add o (exec ask b q o.state)).made) → Q (add o (exec ask b q o.state))) (sym (bump_is s t ts h e))
            (λ c. g.holds (clear_second (token t (length ts) done) (exec ask b q (taken ts)).made c));
      }
