-- Each action gives what the analysis says of it.
use Prim.Native.Nat.{ℕ, zero, suc}
use mathlib.Core.Path.{◌≡◌, refl, sym, subst}
use mathlib.Core.Bool.{Bool, true, false}
use mathlib.Core.List.{List, [], ◌∷◌}
use lib.Dec.{ltb, eqb}
use lib.ListN.{length}
use borrow.Author.Tests.{eqb-true}
use Rattle.definitions.specs.TokenKind as K
use Rattle.definitions.specs.Prog.{Ans, no, yes, also, again, Act, silent_at, at_end, immediate, immediate_next, add_expected, bump, bump_name, bump_argument, emit, emit_unclosed, less}
use Rattle.definitions.specs.Token.{Token, is_error, seen, trivia, drop_trivia, first_in, past, ended}
use Rattle.definitions.specs.Skeleton.{Label, token, done, ◌⧺◌}
use Rattle.definitions.specs.Run.{State, Out, peeked, truth, replies, makes, taken, do_bump, stretch_of, do_name, add, at_depth, do_argument, do_emit, do_expected, perform}
use Rattle.basics.proofs.Tests.{cond-with}
use Rattle.laws.proofs.Trivia.{drop_none, drop_twice}
use Rattle.laws.proofs.Analysis.{get}
use Rattle.brackets.specs.Brackets.{Outline, end, leaf, leaves_only, proper, elsewhere}
use Rattle.brackets.proofs.Bits.{at, both, at_both}
use Rattle.brackets.proofs.Flat.{◌⊞◌, beside_end, flat, shut}
use Rattle.brackets.proofs.Summary.{Sum, Sums, concat, sums_join, fits_join}
use Rattle.brackets.proofs.Ahead.{class_of, class, Allows, anything, none_left, some_left, another, seen_set, unseen_set, allows_seen, allows_unseen, allows_anything, allows_ended, allows_there}
use Rattle.brackets.proofs.Taken.{bumped, bumped_none, bumped_leaf, name_taken, name_none, name_leaf, leaves, leaves_fit, leaves_sums}
use Rattle.brackets.proofs.Look.{Fact, fact, kept, tested, look_act}
use Rattle.brackets.proofs.Meaning.{Known, Holds, kept_holds, Gives}

-- ---------------------------------------------------------------- nothing made

-- the same tokens ahead, and nothing more made
still : (n : List Bool) (m : Sum) (q : Outline) (s u : State) → drop_trivia u.rest ≡ drop_trivia s.rest → Known n m q s → Known n m (q ⊞ end) u
still n m q s u e h =
    subst (λ (x : Outline). Known n m x u) (sym (beside_end q)) (record { ahead = subst (Allows n) (sym e) h.ahead; sums = h.sums; fit = h.fit })

-- of the classes only those that the token ahead is of
narrowed : (n k : List Bool) (m : Sum) (q : Outline) (s : State) → Allows k (drop_trivia s.rest) → Known n m q s → Known (both n k) m q s
narrowed n k m q s a h = record { ahead = at_both (class (drop_trivia s.rest)) n k h.ahead a; sums = h.sums; fit = h.fit }

by_truth : (n y : Fact) (b : Bool) (q : Outline) (s : State) → (b ≡ false → Holds n q s) → (b ≡ true → Holds y q s) → Holds (get (tested n y) (truth b)) q s
by_truth n y true q s p r = r refl
by_truth n y false q s p r = p refl

-- a test that peeks, and tells two sets of classes apart
peeked_test : (n i j : List Bool) (m : Sum) (q : Outline) (s : State) (b : Bool) → Known n m q s
    → (b ≡ false → Allows i (drop_trivia s.rest)) → (b ≡ true → Allows j (drop_trivia s.rest))
    → Holds (get (tested (kept (both n i) m) (kept (both n j) m)) (truth b)) (q ⊞ end) (peeked s)
unfolding peeked
peeked_test n i j m q s b h p r =
    let u = peeked s in
    let e : drop_trivia u.rest ≡ drop_trivia s.rest = drop_twice s.rest in
    by_truth (kept (both n i) m) (kept (both n j) m) b (q ⊞ end) u
    (λ z. kept_holds (both n i) m (q ⊞ end) u (still (both n i) m q s u e (narrowed n i m q s (p z) h)))
    (λ z. kept_holds (both n j) m (q ⊞ end) u (still (both n j) m q s u e (narrowed n j m q s (r z) h)))

-- ---------------------------------------------------------------- a token or a name taken

more : (m l : Sum) (q x : Outline) (ts : List Token) (u : State) → Sums m q → proper elsewhere q ≡ true → Sums l x → proper elsewhere x ≡ true → Known anything (concat m l) (q ⊞ x) u
more m l q x ts u h e g f = record { ahead = allows_anything (drop_trivia u.rest); sums = sums_join m l q x h g; fit = fits_join elsewhere q x e f }

bump_gives : (n : List Bool) (m : Sum) (q : Outline) (s : State) (l : List Token) → drop_trivia s.rest ≡ l → Known n m q s → Gives (look_act bump n m) q (do_bump (peeked s) l)
unfolding look_act do_bump replies makes shut flat class proper
bump_gives n m q s [] e h = more m (bumped n) q end [] (peeked s) h.sums h.fit (bumped_none n (subst (Allows n) e h.ahead)) refl
bump_gives n m q s (t ∷ ts) e h =
    more m (bumped n) q (leaf (seen t) end) ts (taken ts) h.sums h.fit (bumped_leaf n (seen t) (subst (Allows n) e h.ahead)) refl

name_gives : (ks : List ℕ) (n : List Bool) (m : Sum) (q : Outline) (s : State) (l : List Token) → drop_trivia s.rest ≡ l → Known n m q s
    → Gives (look_act (bump_name ks) n m) q (do_name ks (peeked s) l)
unfolding look_act do_name replies makes shut flat class proper
name_gives ks n m q s [] e h = more m (name_taken n) q end [] (peeked s) h.sums h.fit (name_none n (subst (Allows n) e h.ahead)) refl
name_gives ks n m q s (t ∷ ts) e h =
    more m (name_taken n) q (leaf K.Name end) ts (taken (stretch_of ks ts).after) h.sums h.fit (name_leaf n) refl

-- ---------------------------------------------------------------- a macro argument

-- up to a comma, or up to a bracket or the end
abbrev Told : Ans → State → Type 0
Told no u = Unit {0}
Told yes u = Allows another (drop_trivia u.rest)
Told also u = ⊥
Told again u = ⊥

record Argued (o : Out) : Type 0 where
  shape_is : o.shape ≡ 0
  made_leaves : leaves_only (flat o.made) ≡ true
  told : Told o.ans o.state

comma_seen : (t : Token) → t.kind ≡ K.Comma → seen t ≡ K.Comma
unfolding seen is_error
comma_seen t e = rw e refl

comma_ahead : (t : Token) (ts : List Token) → trivia t ≡ false → eqb t.kind K.Comma ≡ true → Allows another (drop_trivia (t ∷ ts))
unfolding class
comma_ahead t ts e c =
    subst (Allows another) (sym (drop_none t ts e)) (subst (λ (k : ℕ). at (class_of k) another ≡ true) (sym (comma_seen t (eqb-true t.kind K.Comma c))) refl)

argued_depth : (n : ℕ) (o : Out) (f : ℕ → Out) → Argued o → ((m : ℕ) → Argued (f m)) → Argued (at_depth n o f)
unfolding at_depth
argued_depth zero o f p q = p
argued_depth (suc n) o f p q = q n

argued : (n : ℕ) (s : State) (ts : List Token) → Argued (do_argument n s ts)
unfolding do_argument replies makes add flat ◌⧺◌ leaves_only
argued n s [] = record { shape_is = refl; made_leaves = refl; told = tt }
argued n s (t ∷ ts) =
    let go : (m : ℕ) → Argued (add (makes yes (token t (length ts) done) (taken ts)) (do_argument m (taken ts) ts)) =
    λ m. let a = argued m (taken ts) ts in record { shape_is = a.shape_is; made_leaves = a.made_leaves; told = a.told } in
    cond-with Argued (trivia t) (λ e. argued n s ts)
    (λ e. cond-with Argued (eqb t.kind K.LParen) (λ _. go (suc n))
    (λ _. cond-with Argued (eqb t.kind K.RParen)
    (λ _. argued_depth n _ _ (record { shape_is = refl; made_leaves = refl; told = tt }) go)
    (λ _. cond-with Argued (eqb t.kind K.Comma)
    (λ c. argued_depth n _ _ (record { shape_is = refl; made_leaves = refl; told = comma_ahead t ts e c }) (λ m. go (suc m)))
    (λ _. go n))))

argument_gives : (n : List Bool) (m : Sum) (q : Outline) (s : State) (o : Out) → Argued o → Known n m q s → Gives (look_act bump_argument n m) q o
unfolding look_act shut
argument_gives n m q s o a h =
    subst (λ (k : ℕ). Holds (get (tested (fact anything (concat m leaves)) (fact another (concat m leaves))) o.ans) (shut k (q ⊞ flat o.made)) o.state) (sym a.shape_is)
    (go o.ans a.told)
  where
    go : (x : Ans) → Told x o.state → Holds (get (tested (fact anything (concat m leaves)) (fact another (concat m leaves))) x) (q ⊞ flat o.made) o.state
    go no t = more m leaves q (flat o.made) [] o.state h.sums h.fit (leaves_sums (flat o.made) a.made_leaves) (leaves_fit (flat o.made) a.made_leaves).0
    go yes t =
        record {
          ahead = t;
          sums = sums_join m leaves q (flat o.made) h.sums (leaves_sums (flat o.made) a.made_leaves);
          fit = fits_join elsewhere q (flat o.made) h.fit (leaves_fit (flat o.made) a.made_leaves).0;
        }
    go also t = absurd t
    go again t = absurd t

-- ---------------------------------------------------------------- all of them

pub act_gives : (b : Label) (a : Act) (n : List Bool) (m : Sum) (q : Outline) (s : State) → Known n m q s → Gives (look_act a n m) q (perform b a s)
unfolding look_act perform replies makes do_expected do_emit shut flat
act_gives b (silent_at ks) n m q s h =
    peeked_test n (unseen_set ks) (seen_set ks) m q s (first_in ks (peeked s).rest) h (λ e. allows_unseen ks (drop_trivia s.rest) (unfold peeked in e)) (λ e. allows_seen ks (drop_trivia s.rest) (unfold peeked in e))
act_gives b at_end n m q s h =
    peeked_test n some_left none_left m q s (ended (peeked s).rest) h (λ e. allows_there (drop_trivia s.rest) (unfold peeked in e)) (λ e. allows_ended (drop_trivia s.rest) (unfold peeked in e))
act_gives b (immediate k) n m q s h = by_truth (fact n m) (fact n m) (first_in (k ∷ []) s.rest) (q ⊞ end) s (λ _. still n m q s s refl h) (λ _. still n m q s s refl h)
act_gives b (immediate_next k) n m q s h = by_truth (fact n m) (fact n m) (first_in (k ∷ []) (past s.rest)) (q ⊞ end) s (λ _. still n m q s s refl h) (λ _. still n m q s s refl h)
act_gives b (add_expected k) n m q s h = still n m q s (perform b (add_expected k) s).state refl h
act_gives b bump n m q s h = unfold peeked in bump_gives n m q s (drop_trivia s.rest) refl h
act_gives b (bump_name ks) n m q s h = unfold peeked in name_gives ks n m q s (drop_trivia s.rest) refl h
act_gives b bump_argument n m q s h = argument_gives n m q s (do_argument 0 s s.rest) (argued 0 s s.rest) h
act_gives b (emit k j) n m q s h = still n m q s (peeked s) (unfold peeked in drop_twice s.rest) h
act_gives b emit_unclosed n m q s h = still n m q s (peeked s) (unfold peeked in drop_twice s.rest) h
act_gives b (less j k) n m q s h = by_truth (fact n m) (fact n m) (ltb j k) (q ⊞ end) s (λ _. still n m q s s refl h) (λ _. still n m q s s refl h)

-- no action completes a marker
bump_shape : (s : State) (l : List Token) → (do_bump s l).shape ≡ 0
unfolding do_bump replies makes
bump_shape s [] = refl
bump_shape s (t ∷ ts) = refl

name_shape : (ks : List ℕ) (s : State) (l : List Token) → (do_name ks s l).shape ≡ 0
unfolding do_name replies makes
name_shape ks s [] = refl
name_shape ks s (t ∷ ts) = refl

pub act_shape : (b : Label) (a : Act) (s : State) → (perform b a s).shape ≡ 0
unfolding perform replies makes do_expected do_emit
act_shape b (silent_at ks) s = refl
act_shape b at_end s = refl
act_shape b (immediate k) s = refl
act_shape b (immediate_next k) s = refl
act_shape b (add_expected k) s = refl
act_shape b bump s = bump_shape (peeked s) (peeked s).rest
act_shape b (bump_name ks) s = name_shape ks (peeked s) (peeked s).rest
act_shape b bump_argument s = (argued 0 s s.rest).shape_is
act_shape b (emit k j) s = refl
act_shape b emit_unclosed s = refl
act_shape b (less j k) s = refl
