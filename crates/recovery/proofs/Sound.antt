-- The analysis is sound: what it surely finds of a program holds of every run of it.
use Prim.Native.Nat.{ℕ, zero, suc}
use mathlib.Core.Path.{◌≡◌, refl, ap, sym, ◌∙◌, subst}
use mathlib.Core.Bool.{Bool, true, false, cond, ◌&&◌, ◌||◌, false≢true, true≢false}
use mathlib.Core.List.{List}
use lib.Dec.{eqb}
use lib.ListN.{length}
use borrow.Author.Tests.{eqb-true}
use Rattle.definitions.specs.Layout.{MOST_OPEN_CALLS}
use Rattle.definitions.specs.Token.{Token, drop_trivia}
use Rattle.definitions.specs.Prog.{choose, Ans, no, yes, also, again, Rule, item, propvalues, eat_cell, expr_binding_power, Prog, ret, act, ◌⨟◌, case, in_marker, loop, chain, brace, open_call}
use Rattle.definitions.specs.Grammar.{grammar, sourcefile_turn, left_over}
use Rattle.definitions.specs.Skeleton.{Label, no_label, Skeleton, done, ◌⧺◌}
use Rattle.definitions.specs.Run.{State, Out, mark_of, replies, makes, add, closed, marked, is_again, goes_on, iter, chained, here, exec, run}
use Rattle.definitions.specs.Place.{after, place}
use Rattle.basics.proofs.Tests.{and_left, and_right, cond-with}
use Rattle.laws.proofs.Shape.{chained_shape}
use Rattle.laws.proofs.Trivia.{drop_twice}
use Rattle.laws.proofs.Sound.{is_again_eq}
use Rattle.laws.proofs.Skeleton.{join_done, join_assoc}
use Rattle.recovery.proofs.Analysis.{Rank, low, mid, high, Known, idle, know, ◌▷◌, around, fits, Post, claim, pick, plain_kind, dull, surely, up_to, item_surely, turn_surely, left_over_surely}
use Rattle.recovery.proofs.Going.{Goes, goes_nowhere, goes_then, exec_goes, At, at_after}
use Rattle.recovery.proofs.Meaning.{Head, Holds, Ends, weaken, holds_then}
use Rattle.recovery.proofs.Actions.{Ending, any_of, stays, looks, unknown, act_ends}
use Rattle.recovery.proofs.Markers.{ignored_holds, node_holds, dull_holds}

-- ---------------------------------------------------------------- shapes

choose_is : (Z : Out → Type 0) (x : Ans) (N Y A : State → Out) (u : State) → Z (N u) → Z (Y u) → Z (A u) → Z (choose x N Y A u)
unfolding choose
choose_is Z no N Y A u p q r = p
choose_is Z yes N Y A u p q r = q
choose_is Z also N Y A u p q r = r
choose_is Z again N Y A u p q r = q

dull_shape : (ask : Rule → State → Out) (b : Label) (p : Prog) (s : State) → dull p ≡ true → plain_kind (exec ask b p s).shape ≡ true
unfolding exec dull add
dull_shape ask b (ret k a) s e = e
dull_shape ask b (act a) s e = absurd (false≢true e)
dull_shape ask b (p ⨟ q) s e = dull_shape ask b q _ e
dull_shape ask b (case c n y a) s e =
    choose_is (λ (o : Out). plain_kind o.shape ≡ true) (exec ask b c s).ans (exec ask b n) (exec ask b y) (exec ask b a) (exec ask b c s).state
    (dull_shape ask b n _ (and_left (dull n) _ e)) (dull_shape ask b y _ (and_left (dull y) _ (and_right (dull n) _ e))) (dull_shape ask b a _ (and_right (dull y) _ (and_right (dull n) _ e)))
dull_shape ask b (in_marker p) s e = absurd (false≢true e)
dull_shape ask b (loop p) s e = absurd (false≢true e)
dull_shape ask b (chain p q) s e = absurd (false≢true e)
dull_shape ask b (brace p) s e = dull_shape ask (here s.rest) p s e
dull_shape ask b (open_call r) s e = absurd (false≢true e)

-- ---------------------------------------------------------------- loops

-- what is wanted of a turn, where J is known of what stands before it
abbrev Turn : Post → Known → Post
Turn P J k x e = cond (is_again x) (fits (J ▷ e) J) (P 0 x (J ▷ e))

cond_true : (b x y : Bool) → cond b x y ≡ true → b ≡ true → x ≡ true
cond_true true x y e h = e
cond_true false x y e h = absurd (false≢true h)

cond_false : (b x y : Bool) → cond b x y ≡ true → b ≡ false → y ≡ true
cond_false true x y e h = absurd (true≢false h)
cond_false false x y e h = e

module _ (n : ℕ) (b : Label) (q : Prog) (P : Post) (J : Known) (s₀ : State) (ts : List Token) (A : At s₀ ts)
    (PJ : P 0 again J ≡ true) (T : (s : State) (us : List Token) → At s us → Ending (Turn P J) s us (exec (run n) b q s)) where
  -- a turn after p, where J is known
  one_turn : (p : Skeleton) (s : State) (e : Known) → Holds (J ▷ e) s₀ ts p s → (x : Ans) → Turn P J 0 x e ≡ true → Ends P s₀ ts 0 x p s
  one_turn p s e H x t =
      cond-with (λ _. Ends P s₀ ts 0 x p s) (is_again x) {x = tt {0}} {y = tt {0}}
      (λ y. record { known = J; post = ap (λ (a : Ans). P 0 a J) (is_again_eq x y) ∙ PJ; holds = weaken (J ▷ e) J s₀ ts p s (cond_true (is_again x) _ _ t y) H })
      (λ y. record { known = J ▷ e; post = cond_false (is_again x) _ _ t y; holds = H })

  loop_ends : (m : ℕ) (p : Skeleton) (s : State) → Goes s₀ p s → Holds J s₀ ts p s
      → Ends P s₀ ts (iter m (exec (run n) b q) s).shape (iter m (exec (run n) b q) s).ans (p ⧺ (iter m (exec (run n) b q) s).made) (iter m (exec (run n) b q) s).state
  unfolding iter replies makes add
  loop_ends zero p s G H = record { known = J; post = PJ; holds = subst (λ (r : Skeleton). Holds J s₀ ts r s) (sym (join_done p)) H }
  loop_ends (suc m) p s G H =
      let o : Out = exec (run n) b q s in
      let E : Ending (Turn P J) s (after p ts) o = T s (after p ts) (at_after s₀ s ts p A G) in
      let G' : Goes s₀ (p ⧺ o.made) o.state = goes_then s₀ s o.state p o.made G (exec_goes n b q s G.stands) in
      let H' : Holds (J ▷ E.known) s₀ ts (p ⧺ o.made) o.state = holds_then s₀ s o.state ts p o.made G J E.known H E.holds in
      let more : Out = iter m (exec (run n) b q) o.state in
      cond-with (λ (x : Out). Ends P s₀ ts x.shape x.ans (p ⧺ x.made) x.state) (goes_on s o)
      {x = record { ans = more.ans; shape = more.shape; made = o.made ⧺ more.made; state = more.state }}
      {y = record { ans = o.ans; shape = 0; made = o.made; state = o.state }}
      (λ y.
      let f : fits (J ▷ E.known) J ≡ true = cond_true (is_again o.ans) _ _ E.post (and_left (is_again o.ans) _ (unfold goes_on in y)) in
      subst (λ (r : Skeleton). Ends P s₀ ts more.shape more.ans r more.state) (join_assoc p o.made more.made)
      (loop_ends m (p ⧺ o.made) o.state G' (weaken (J ▷ E.known) J s₀ ts _ _ f H')))
      (λ y. one_turn (p ⧺ o.made) o.state E.known H' o.ans E.post)

-- ---------------------------------------------------------------- every program

or_case {ℓ} : {Z : Type ℓ} (a b : Bool) → a || b ≡ true → (a ≡ true → Z) → (b ≡ true → Z) → Z
or_case true b e p q = p refl
or_case false b e p q = q e

choose_ends : (P : Post) (ts : List Token) (x : Ans) (N Y A : State → Out) (pn py pa : Bool) (u : State)
    → (pn ≡ true → Ending P u ts (N u)) → (py ≡ true → Ending P u ts (Y u)) → (pa ≡ true → Ending P u ts (A u)) → pick x pn py pa ≡ true → Ending P u ts (choose x N Y A u)
unfolding choose
choose_ends P ts no N Y A pn py pa u p q r e = p e
choose_ends P ts yes N Y A pn py pa u p q r e = q e
choose_ends P ts also N Y A pn py pa u p q r e = r e
choose_ends P ts again N Y A pn py pa u p q r e = q e

peeked_at : (s : State) (ts : List Token) → At s ts → At s (drop_trivia ts)
peeked_at s ts A = record { stands = A.stands; same = drop_twice ts ∙ A.same }

-- what is claimed of a call
pub record Claimed (n : ℕ) (r : Rule) (s : State) (ts : List Token) : Type 0 where
  pub shape : (run n r s).shape ≡ 0
  pub holds : Holds (claim r) s ts (run n r s).made (run n r s).state

module _ (n : ℕ) (C : (r : Rule) (s : State) (ts : List Token) → At s ts → Claimed n r s ts) where
  -- d is known of o, and then P of what follows, with d before it
  then_ends : (P : Post) (s : State) (ts : List Token) (o o' : Out) → Goes s o.made o.state → (d : Known) → Holds d s ts o.made o.state
      → Ending (λ k x e. P k x (d ▷ e)) o.state (after o.made ts) o' → Ending P s ts (add o o')
  unfolding add
  then_ends P s ts o o' G d H E =
      record { known = d ▷ E.known; post = E.post; holds = holds_then s o.state o'.state ts o.made o'.made G d E.known H E.holds }

  -- a marker around x
  marked_ends : (P : Post) (s : State) (ts : List Token) (o : Out) → ((us : List Token) → At s us → Ending (λ k x e. P 0 x (around k e)) s us o) → At s ts → Ending P s ts (marked s o)
  unfolding marked makes
  marked_ends P s ts o f A = go o.shape refl
    where
      go : (k : ℕ) → o.shape ≡ k → Ends P s ts 0 o.ans (closed o.shape (mark_of s) (mark_of o.state) done o.made) o.state
      go zero e =
          let E : Ending (λ k x d. P 0 x (around k d)) s ts o = f ts A in
          subst (λ (k : ℕ). Ends P s ts 0 o.ans (closed k (mark_of s) (mark_of o.state) done o.made) o.state) (sym e)
          (record { known = around 0 E.known; post = ap (λ (k : ℕ). P 0 o.ans (around k E.known)) (sym e) ∙ E.post; holds = ignored_holds s o.state (mark_of s) (mark_of o.state) o.made ts E.known E.holds })
      go (suc k) e =
          let E : Ending (λ k x d. P 0 x (around k d)) s (drop_trivia ts) o = f (drop_trivia ts) (peeked_at s ts A) in
          subst (λ (k : ℕ). Ends P s ts 0 o.ans (closed k (mark_of s) (mark_of o.state) done o.made) o.state) (sym e)
          (record { known = around (suc k) E.known; post = ap (λ (k : ℕ). P 0 o.ans (around k E.known)) (sym e) ∙ E.post; holds = node_holds s o.state (mark_of s) (mark_of o.state) o.made k ts E.known E.holds })

  -- SOUND
  pub exec_ends : (b : Label) (p : Prog) (P : Post) (h : Bool) → surely p P h ≡ true → (s : State) (ts : List Token) → At s ts → Head h s → Ending P s ts (exec (run n) b p s)
  unfolding exec surely
  exec_ends b (ret k a) P h e s ts A x = record { known = idle h; post = e; holds = stays h s ts x }
  exec_ends b (act a) P h e s ts A x = act_ends P h s ts A x b a e
  exec_ends b (p ⨟ q) P h e s ts A x =
      let o : Out = exec (run n) b p s in
      let G : Goes s o.made o.state = exec_goes n b p s A.stands in
      let E : Ending (λ _ _ d. surely q (λ k z c. P k z (d ▷ c)) d.head) s ts o = exec_ends b p _ h e s ts A x in
      then_ends P s ts o _ G E.known E.holds
      (exec_ends b q (λ k z c. P k z (E.known ▷ c)) E.known.head E.post o.state (after o.made ts) (at_after s o.state ts o.made A G) E.holds.head)
  exec_ends b (case c n' y a) P h e s ts A x =
      let o : Out = exec (run n) b c s in
      let G : Goes s o.made o.state = exec_goes n b c s A.stands in
      let R : Known → Post = λ d k z f. P k z (d ▷ f) in
      let E : Ending (λ _ z d. pick z (surely n' (R d) d.head) (surely y (R d) d.head) (surely a (R d) d.head)) s ts o = exec_ends b c _ h e s ts A x in
      let d : Known = E.known in
      let A' : At o.state (after o.made ts) = at_after s o.state ts o.made A G in
      then_ends P s ts o _ G d E.holds
      (choose_ends (R d) (after o.made ts) o.ans (exec (run n) b n') (exec (run n) b y) (exec (run n) b a) _ _ _ o.state
      (λ w. exec_ends b n' (R d) d.head w o.state _ A' E.holds.head)
      (λ w. exec_ends b y (R d) d.head w o.state _ A' E.holds.head)
      (λ w. exec_ends b a (R d) d.head w o.state _ A' E.holds.head)
      E.post)
  exec_ends b (in_marker p) P h e s ts A x =
      let o : Out = exec (run n) b p s in
      cond-with (λ _. Ending P s ts (marked s o)) (dull p) {x = tt {0}} {y = tt {0}}
      (λ y. unfold marked makes in record {
        known = know true low low;
        post = any_of (λ z. P 0 z (know true low low)) (cond_true (dull p) _ _ e y) o.ans;
        holds = dull_holds s o.state (mark_of s) (mark_of o.state) o.made o.shape ts (dull_shape (run n) b p s y);
      })
      (λ y. marked_ends P s ts o (λ us B. exec_ends b p (λ k z d. P 0 z (around k d)) h (cond_false (dull p) _ _ e y) s us B x) A)
  exec_ends b (loop p) P h e s ts A x =
      let try : Known → Bool = λ J. P 0 again J && surely p (Turn P J) true in
      let m : ℕ = suc (length s.rest) in
      let on : (J : Known) → fits (idle h) J ≡ true → try J ≡ true → Ending P s ts (iter m (exec (run n) b p) s) =
      λ J f y.
      unfold ◌⧺◌ in
      loop_ends n b p P J s ts A (and_left (P 0 again J) _ y) (λ u us B. exec_ends b p (Turn P J) true (and_right (P 0 again J) _ y) u us B (λ _. refl)) m done s
      (goes_nowhere s A.stands) (weaken (idle h) J s ts done s f (stays h s ts x)) in
      let any_head : (t r : Rank) → fits (idle h) (know true t r) ≡ true = λ t r. fits_all h t r in
      or_case (try (know true low low)) _ e (on (know true low low) (any_head low low))
      (λ y. or_case (try (know true low high)) _ y (on (know true low high) (any_head low high)) (on (know true high high) (any_head high high)))
    where
      fits_all : (h : Bool) (t r : Rank) → fits (idle h) (know true t r) ≡ true
      fits_all true t r = refl
      fits_all false t r = refl
  exec_ends b (chain p q) P h e s ts A x =
      let o : Out = chained (exec (run n) b q) s (exec (run n) b p s) in
      record {
        known = know true high high;
        post = ap (λ (k : ℕ). P k o.ans (know true high high)) (chained_shape (exec (run n) b q) s (exec (run n) b p s)) ∙ any_of (λ z. P 0 z (know true high high)) e o.ans;
        holds = unknown s o.state ts o.made;
      }
  exec_ends b (brace p) P h e s ts A x = exec_ends (here s.rest) p P h e s ts A x
  exec_ends b (open_call r) P h e s ts A x =
      let o : Out = run n r s in
      record {
        known = claim r;
        post = ap (λ (k : ℕ). P k o.ans (claim r)) (C r s ts A).shape ∙ any_of (λ z. P 0 z (claim r)) e o.ans;
        holds = (C r s ts A).holds;
      }

  -- what the analysis finds of a program from any state
  pub program_ends : (b : Label) (p : Prog) (c : Known) → surely p (up_to c) true ≡ true → (s : State) (ts : List Token) → At s ts
      → ((exec (run n) b p s).shape ≡ 0) × Holds c s ts (exec (run n) b p s).made (exec (run n) b p s).state
  program_ends b p c e s ts A =
      let o : Out = exec (run n) b p s in
      let E : Ending (up_to c) s ts o = exec_ends b p (up_to c) true e s ts A (λ _. refl) in
      (eqb-true o.shape 0 (and_left (eqb o.shape 0) _ E.post), weaken E.known c s ts o.made o.state (and_right (eqb o.shape 0) _ E.post) E.holds)

-- ---------------------------------------------------------------- every call

grammar_surely : (r : Rule) → surely (grammar r) (up_to (claim r)) true ≡ true
unfolding surely grammar
grammar_surely item = item_surely
grammar_surely (propvalues true) = refl
grammar_surely (propvalues false) = refl
grammar_surely (eat_cell true) = refl
grammar_surely (eat_cell false) = refl
grammar_surely (expr_binding_power m) = refl

claim_fits : (r : Rule) → fits (know true low low) (claim r) ≡ true
claim_fits item = refl
claim_fits (propvalues b) = refl
claim_fits (eat_cell b) = refl
claim_fits (expr_binding_power m) = refl

pub run_claimed : (n : ℕ) (r : Rule) (s : State) (ts : List Token) → At s ts → Claimed n r s ts
unfolding run makes place
run_claimed zero r s ts A = record { shape = refl; holds = weaken (know true low low) (claim r) s ts _ s (claim_fits r) (looks true s s ts _ refl (λ _. refl)) }
run_claimed (suc n) r s ts A =
    let E = program_ends n (λ q u us B. run_claimed n q u us B) no_label (grammar r) (claim r) (grammar_surely r) s ts A in
    record { shape = E.0; holds = E.1 }

-- A TURN of the source file's loop: no statement in it ends in a semicolon of its own, or only its last part does and
-- the run stands right after it
pub turn_holds : (s : State) (ts : List Token) → At s ts
    → Holds (know true low mid) s ts (exec (run MOST_OPEN_CALLS) no_label sourcefile_turn s).made (exec (run MOST_OPEN_CALLS) no_label sourcefile_turn s).state
turn_holds s ts A = (program_ends MOST_OPEN_CALLS (run_claimed MOST_OPEN_CALLS) no_label sourcefile_turn (know true low mid) turn_surely s ts A).1

pub left_over_holds : (s : State) (ts : List Token) → At s ts
    → Holds (know true low low) s ts (exec (run MOST_OPEN_CALLS) no_label left_over s).made (exec (run MOST_OPEN_CALLS) no_label left_over s).state
left_over_holds s ts A = (program_ends MOST_OPEN_CALLS (run_claimed MOST_OPEN_CALLS) no_label left_over (know true low low) left_over_surely s ts A).1
