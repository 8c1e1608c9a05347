-- Each action leaves the facts that the analysis says.
use Prim.Native.Nat.{ℕ, zero, suc, ◌≤◌, ◌<◌}
use native.Mathlib.Nat.{le_trans, le_refl}
use native.Mathlib.Omega.{arith}
use mathlib.Core.Path.{◌≡◌, refl, sym, ap, subst, ◌∙◌}
use mathlib.Core.Bool.{Bool, true, false, cond, not, ◌||◌, false≢true, true≢false}
use mathlib.Core.List.{List, [], ◌∷◌, ◌++◌}
use lib.Dec.{eqb, ltb}
use lib.ListN.{length, length-append}
use borrow.Author.Tests.{eqb-true}
use Rattle.definitions.specs.TokenKind as K
use Rattle.definitions.specs.Prog.{Ans, no, yes, also, again, Act, silent_at, immediate, immediate_next, add_expected, bump, bump_name, bump_argument, emit, emit_unclosed, less}
use Rattle.definitions.specs.Prog as P
use Rattle.definitions.specs.Token.{Token, is_error, seen, trivia, drop_trivia, past, ended, one_of, first_in}
use Rattle.definitions.specs.Skeleton.{Label, done, token}
use Rattle.definitions.specs.Once.{pushed_once}
use Rattle.definitions.specs.Run.{State, Out, mark_of, peeked, truth, replies, makes, taken, do_bump, stretch_of, do_name, add, at_depth, do_argument, do_emit, do_expected, perform}
use Rattle.basics.proofs.Tests.{cond-all, cond-with, and_left, and_right}
use Rattle.laws.proofs.Trivia.{drop_none, drop_trivium, drop_twice, drop_trivia_length}
use Rattle.laws.proofs.Kept.{run_of_split}
use Rattle.laws.proofs.FactsHold.{first_there}
use Rattle.facts.proofs.Known.{kinds_within, inside, Known, known, some, nothing, is_among, seen_in, not_in, at_end, not_at_end, knows}
use Rattle.facts.proofs.Knowing.{kinds_weaken, knows_seen, knows_not, knows_end, knows_more}
use Rattle.facts.proofs.Facts.{Pend, empty, push, pend_from, By, pick, map, nowhere, cleared, each, by_pushed, may_push, Fact, fact, over, fact_within}
use Rattle.facts.proofs.May.{meets, asserts, token_there, both_ways, may_act}
use Rattle.facts.proofs.Look.{get, tested, done_so, bumped, argued, ended_or_in, immediate_look, act_look}
use Rattle.facts.proofs.Pushing.{pend_once, repeat_other}
use Rattle.facts.proofs.Holds.{Told, told_map, told_each, told_pushed, Right, Way, fresh_way, took_way, Holds, right_left, right_right, right_nowhere, holds_by, holds_weaken}

-- ---------------------------------------------------------------- nothing taken

-- from s to u no token is taken
holds_to : (d e : Fact) (s₀ s u : State) → mark_of u ≡ mark_of s → length u.rest ≤ length s.rest
    → (Right d.fresh s → Right e.fresh u) → (Right d.took s → Right e.took u) → Holds d s₀ s → Holds e s₀ u
holds_to d e s₀ s u m l p q h =
    record { within = subst (λ (x : ℕ). length u.rest ≤ x) (sym m) (le_trans l h.within); below = le_trans l h.below; way = go h.way }
  where
    go : Way d s₀ s → Way e s₀ u
    go (fresh_way i r) = fresh_way (m ∙ i) (p r)
    go (took_way i r) = took_way (subst (λ (x : ℕ). x < length s₀.rest) (sym m) i) (q r)

right_peeked : (f : By) (s : State) → Right f s → Right f (peeked s)
unfolding peeked
right_peeked f s h = record { told = subst (λ (l : List Token). Told (pend_from empty s.pending) f l) (sym (drop_twice s.rest)) h.told }

pub holds_peeked : (d : Fact) (s₀ s : State) → Holds d s₀ s → Holds d s₀ (peeked s)
unfolding peeked
holds_peeked d s₀ s h = holds_to d d s₀ s (peeked s) refl (drop_trivia_length s.rest) (right_peeked d.fresh s) (right_peeked d.took s) h

-- what is known of the tokens at the cursor is known better
right_map : (g : Known → Known) (f : By) (s : State) → ((k : Known) → knows k (drop_trivia s.rest) ≡ true → knows (g k) (drop_trivia s.rest) ≡ true) → Right f s → Right (map g f) s
right_map g f s k h = record { told = told_map (pend_from empty s.pending) g f (drop_trivia s.rest) (drop_trivia s.rest) k h.told }

holds_map : (g : Known → Known) (d : Fact) (s₀ s : State) → ((k : Known) → knows k (drop_trivia s.rest) ≡ true → knows (g k) (drop_trivia s.rest) ≡ true) → Holds d s₀ s → Holds (over (map g) d) s₀ s
holds_map g d s₀ s k h = holds_by d (over (map g) d) s₀ s (right_map g d.fresh s k) (right_map g d.took s k) h

in_tested : (n y : Fact) (b : Bool) (s₀ s : State) → (b ≡ false → Holds n s₀ s) → (b ≡ true → Holds y s₀ s) → Holds (get (tested n y) (truth b) 0) s₀ s
unfolding get
in_tested n y true s₀ s p q = q refl
in_tested n y false s₀ s p q = p refl

-- ---------------------------------------------------------------- a token taken

pub nothing_knows : (l : List Token) → knows nothing l ≡ true
unfolding knows is_among
nothing_knows [] = refl
nothing_knows (t ∷ ts) = refl

not_ended : (d : Known) (l : List Token) → token_there d ≡ true → knows d l ≡ true → ended l ≡ false
unfolding token_there knows
not_ended d [] t h = absurd (false≢true (subst (λ (b : Bool). not b ≡ true) h t))
not_ended d (x ∷ xs) t h = refl

right_there : (f : By) (s : State) → each token_there f ≡ true → Right f s → ended (drop_trivia s.rest) ≡ false
right_there f s e h =
    not_ended (pick (pend_from empty s.pending) f) (drop_trivia s.rest) (told_each (pend_from empty s.pending) token_there f (unfold token_there in refl) e) h.told

-- where a token may be taken, one is there
pub holds_there : (d : Fact) (s₀ s : State) → both_ways (each token_there) d ≡ true → Holds d s₀ s → ended (drop_trivia s.rest) ≡ false
unfolding both_ways
holds_there d s₀ s e h = go h.way
  where
    go : Way d s₀ s → ended (drop_trivia s.rest) ≡ false
    go (fresh_way m r) = right_there d.fresh s (and_left (each token_there d.fresh) _ e) r
    go (took_way m r) = right_there d.took s (and_right (each token_there d.fresh) _ e) r

-- where one of these kinds is asked for, it is next
meets_first : (ks : List ℕ) (d : Known) (l : List Token) → meets (some ks) d ≡ true → knows d l ≡ true → first_in ks l ≡ true
unfolding meets knows first_in is_among
meets_first ks d [] m h = absurd (false≢true (subst (λ (b : Bool). not b ≡ true) h (and_left (not d.ended) _ m)))
meets_first ks d (t ∷ ts) m h = kinds_weaken d.kinds (some ks) (seen t) (and_right (not d.ended) _ m) h

right_first : (ks : List ℕ) (f : By) (s : State) → each (meets (some ks)) f ≡ true → Right f s → first_in ks (drop_trivia s.rest) ≡ true
right_first ks f s e r =
    let m : Pend = pend_from empty s.pending in
    meets_first ks (pick m f) (drop_trivia s.rest) (told_each m (meets (some ks)) f (unfold meets kinds_within inside in refl) e) r.told

pub holds_next : (ks : List ℕ) (d : Fact) (s₀ s : State) → asserts (some ks) d ≡ true → Holds d s₀ s → first_in ks (drop_trivia s.rest) ≡ true
unfolding asserts both_ways
holds_next ks d s₀ s e h = go h.way
  where
    go : Way d s₀ s → first_in ks (drop_trivia s.rest) ≡ true
    go (fresh_way m r) = right_first ks d.fresh s (and_left (each (meets (some ks)) d.fresh) _ e) r
    go (took_way m r) = right_first ks d.took s (and_right (each (meets (some ks)) d.fresh) _ e) r

-- tokens from the cursor on were taken, and us is left
holds_taken : (d : Fact) (s₀ s : State) (us : List Token) → length us < length s.rest → Holds d s₀ s → Holds bumped s₀ (taken us)
unfolding pick pend_from
holds_taken d s₀ s us l h =
    record { within = le_refl _; below = omega (arith, h.below); way = took_way (le_trans l h.below) (record { told = nothing_knows (drop_trivia us) }) }

bump_holds : (d : Fact) (s₀ s : State) (l : List Token) → drop_trivia s.rest ≡ l → ended l ≡ false → Holds d s₀ s
    → Holds (get (done_so bumped) (do_bump (peeked s) l).ans (do_bump (peeked s) l).shape) s₀ (do_bump (peeked s) l).state
unfolding do_bump makes get
bump_holds d s₀ s [] e t h = absurd (true≢false t)
bump_holds d s₀ s (t ∷ ts) e _ h = holds_taken d s₀ s ts (omega (arith, ap length e, drop_trivia_length s.rest)) h

name_holds : (ks : List ℕ) (d : Fact) (s₀ s : State) (l : List Token) → drop_trivia s.rest ≡ l → ended l ≡ false → Holds d s₀ s
    → Holds (get (done_so bumped) (do_name ks (peeked s) l).ans (do_name ks (peeked s) l).shape) s₀ (do_name ks (peeked s) l).state
unfolding do_name makes get
name_holds ks d s₀ s [] e t h = absurd (true≢false t)
name_holds ks d s₀ s (t ∷ ts) e _ h =
    let n : length ts ≡ length ((stretch_of ks ts).raw ++ (stretch_of ks ts).after) = ap length (run_of_split ks ts) in
    holds_taken d s₀ s (stretch_of ks ts).after (omega (arith, ap length e, drop_trivia_length s.rest, length-append (stretch_of ks ts).raw (stretch_of ks ts).after)) h

-- ---------------------------------------------------------------- one expectation more

holds_pushed : (b : Label) (k : ℕ) (d : Fact) (s₀ s : State) → both_ways (may_push k) d ≡ true → Holds d s₀ s → Holds (over (by_pushed k) d) s₀ (perform b (add_expected k) s).state
unfolding perform do_expected replies both_ways
holds_pushed b k d s₀ s e h =
    holds_to d (over (by_pushed k) d) s₀ s (perform b (add_expected k) s).state refl (le_refl _) (one d.fresh (and_left (may_push k d.fresh) _ e)) (one d.took (and_right (may_push k d.fresh) _ e)) h
  where
    one : (f : By) → may_push k f ≡ true → Right f s → Right (by_pushed k f) (perform b (add_expected k) s).state
    one f m r =
        let same : pend_from empty (pushed_once k s.pending) ≡ push k (pend_from empty s.pending) = pend_once k s.pending (repeat_other f (drop_trivia s.rest) s.pending k m r.told) in
        record {
          told = subst (λ (x : Pend). Told x (by_pushed k f) (drop_trivia s.rest)) (sym same) (told_pushed k (pend_from empty s.pending) f (drop_trivia s.rest) m r.told);
        }

-- ---------------------------------------------------------------- a bracket right at the cursor

bracket_solid : (t : Token) → one_of (K.LParen ∷ []) (seen t) ≡ true → trivia t ≡ false
unfolding seen one_of trivia is_error
bracket_solid t e = go (is_error t.kind) e
  where
    go : (b : Bool) → cond (eqb K.LParen (cond b K.Unrecognized t.kind)) true false ≡ true → (eqb t.kind K.Whitespace || eqb t.kind K.LineComment || eqb t.kind K.BlockComment) ≡ false
    go true i = absurd (false≢true i)
    go false i = one (eqb K.LParen t.kind) refl i
      where
        one : (b : Bool) → eqb K.LParen t.kind ≡ b → cond b true false ≡ true → (eqb t.kind K.Whitespace || eqb t.kind K.LineComment || eqb t.kind K.BlockComment) ≡ false
        one true j _ = subst (λ (x : ℕ). (eqb x K.Whitespace || eqb x K.LineComment || eqb x K.BlockComment) ≡ false) (eqb-true K.LParen t.kind j) refl
        one false j i = absurd (false≢true i)

bracket_here : (l : List Token) → first_in (K.LParen ∷ []) l ≡ true → drop_trivia l ≡ l
unfolding first_in
bracket_here [] e = absurd (false≢true e)
bracket_here (t ∷ ts) e = drop_none t ts (bracket_solid t e)

immediate_holds : (k : ℕ) (d : Fact) (s₀ s : State) → Holds d s₀ s → Holds (get (immediate_look (eqb k K.LParen) k d) (truth (first_in (k ∷ []) s.rest)) 0) s₀ s
unfolding immediate_look
immediate_holds k d s₀ s h = go (eqb k K.LParen) refl
  where
    go : (b : Bool) → eqb k K.LParen ≡ b → Holds (get (immediate_look b k d) (truth (first_in (k ∷ []) s.rest)) 0) s₀ s
    go true e =
        in_tested d (over (map (seen_in (k ∷ []))) d) (first_in (k ∷ []) s.rest) s₀ s (λ _. h)
        (λ i.
        let j : first_in (K.LParen ∷ []) s.rest ≡ true = subst (λ (x : ℕ). first_in (x ∷ []) s.rest ≡ true) (eqb-true k K.LParen e) i in
        holds_map (seen_in (k ∷ [])) d s₀ s (λ x. knows_seen (k ∷ []) x (drop_trivia s.rest) (subst (λ (l : List Token). first_in (k ∷ []) l ≡ true) (sym (bracket_here s.rest j)) i)) h)
    go false e = in_tested d d (first_in (k ∷ []) s.rest) s₀ s (λ _. h) (λ _. h)

-- ---------------------------------------------------------------- a macro argument

kind_seen : (k : ℕ) (t : Token) (ts : List Token) → is_error k ≡ false → eqb k k ≡ true → eqb t.kind k ≡ true → first_in (k ∷ []) (t ∷ ts) ≡ true
unfolding first_in one_of seen is_error
kind_seen k t ts n r e =
    subst (λ (x : ℕ). cond (eqb k (cond (is_error x) K.Unrecognized x)) true false ≡ true) (sym (eqb-true t.kind k e))
    (subst (λ (b : Bool). cond (eqb k (cond b K.Unrecognized k)) true false ≡ true) (sym n) (ap (λ (b : Bool). cond b true false) r))

knows_bracket : (d : Known) (l : List Token) → (first_in (K.RParen ∷ []) l || ended l) ≡ true → knows d l ≡ true → knows (ended_or_in (K.RParen ∷ []) d) l ≡ true
unfolding ended_or_in knows seen_in
knows_bracket d [] t h = h
knows_bracket d (x ∷ xs) t h = knows_seen (K.RParen ∷ []) d (x ∷ xs) (or_false (first_in (K.RParen ∷ []) (x ∷ xs)) t) h
  where
    or_false : (b : Bool) → (b || false) ≡ true → b ≡ true
    or_false true e = refl
    or_false false e = e

-- what is known after it
abbrev Argument : Fact → State → Out → Type 0
Argument d s₀ o = Holds (get (act_look bump_argument d) o.ans o.shape) s₀ o.state

-- no token of it was taken, and l stands at the cursor
module _ (d : Fact) (s₀ s : State) (l : List Token) (e : drop_trivia s.rest ≡ l) (h : Holds d s₀ s) where
  abbrev stays : State
  stays = record { rest = l; since = s.since; pending = s.pending }

  shorter : length l ≤ length s.rest
  shorter = omega (arith, ap length e, drop_trivia_length s.rest)

  again_dropped : drop_trivia l ≡ drop_trivia s.rest
  again_dropped = ap drop_trivia (sym e) ∙ drop_twice s.rest

  right_stays : (g : Known → Known) (f : By) → ((k : Known) → knows k l ≡ true → knows (g k) l ≡ true) → Right f s → Right (map g f) stays
  right_stays g f k r =
      record {
        told = subst (λ (x : List Token). Told (pend_from empty s.pending) (map g f) x) (sym (again_dropped ∙ e))
            (told_map (pend_from empty s.pending) g f l l k (subst (λ (x : List Token). Told (pend_from empty s.pending) f x) e r.told));
      }

  holds_stays : (k : Known) (g : Known → Known) → ((x : Known) → knows x l ≡ true → knows (g x) l ≡ true) → Holds (argued k g d) s₀ stays
  unfolding argued
  holds_stays k g p =
      holds_to d (argued k g d) s₀ s stays refl shorter (right_stays g d.fresh p) (λ r. right_right (cleared k) (map g d.took) stays (right_stays g d.took p r)) h

  -- it ends at a comma; at a bracket or at the end
  stops_comma : first_in (K.Comma ∷ []) l ≡ true → Argument d s₀ (replies yes stays)
  unfolding act_look get replies
  stops_comma i = holds_stays (known false (some (K.Comma ∷ []))) (seen_in (K.Comma ∷ [])) (λ x. knows_seen (K.Comma ∷ []) x l i)

  stops_bracket : (first_in (K.RParen ∷ []) l || ended l) ≡ true → Argument d s₀ (replies no stays)
  unfolding act_look get replies
  stops_bracket i = holds_stays (known true (some (K.RParen ∷ []))) (ended_or_in (K.RParen ∷ [])) (λ x. knows_bracket x l i)

-- some of it was taken
holds_argued : (k : Known) (g : Known → Known) (d : Fact) (s₀ s : State) → fact_within (argued k g bumped) (fact nowhere (cleared k)) ≡ true → Holds (argued k g bumped) s₀ s → Holds (argued k g d) s₀ s
unfolding argued
holds_argued k g d s₀ s w h =
    holds_by (fact nowhere (cleared k)) (argued k g d) s₀ s (λ r. right_nowhere s r) (λ r. right_left (cleared k) (map g d.took) s r)
    (holds_weaken (argued k g bumped) (fact nowhere (cleared k)) s₀ s w h)

-- (computed)
bracket_argued : fact_within (argued (known true (some (K.RParen ∷ []))) (ended_or_in (K.RParen ∷ [])) bumped) (fact nowhere (cleared (known true (some (K.RParen ∷ []))))) ≡ true
unfolding fact_within argued ended_or_in
bracket_argued = refl

comma_argued : fact_within (argued (known false (some (K.Comma ∷ []))) (seen_in (K.Comma ∷ [])) bumped) (fact nowhere (cleared (known false (some (K.Comma ∷ []))))) ≡ true
unfolding fact_within argued seen_in
comma_argued = refl

argument_after : (d : Fact) (s₀ : State) (a : Ans) (k : ℕ) (u : State) → Holds (get (act_look bump_argument bumped) a k) s₀ u → Holds (get (act_look bump_argument d) a k) s₀ u
unfolding act_look get
argument_after d s₀ no k u h = holds_argued (known true (some (K.RParen ∷ []))) (ended_or_in (K.RParen ∷ [])) d s₀ u bracket_argued h
argument_after d s₀ yes k u h = holds_argued (known false (some (K.Comma ∷ []))) (seen_in (K.Comma ∷ [])) d s₀ u comma_argued h
argument_after d s₀ also k u h = h
argument_after d s₀ again zero u h = h
argument_after d s₀ again (suc k) u h = h

depth_argument : (d : Fact) (s₀ : State) (n : ℕ) (o : Out) (f : ℕ → Out) → Argument d s₀ o → ((m : ℕ) → Argument d s₀ (f m)) → Argument d s₀ (at_depth n o f)
unfolding at_depth
depth_argument d s₀ zero o f p q = p
depth_argument d s₀ (suc n) o f p q = q n

none_left : drop_trivia [] ≡ []
unfolding drop_trivia
none_left = refl

at_the_end : (first_in (K.RParen ∷ []) [] || ended []) ≡ true
unfolding first_in
at_the_end = refl

argument_holds : (n : ℕ) (d : Fact) (s₀ s : State) (ts : List Token) → drop_trivia s.rest ≡ drop_trivia ts → length ts ≤ length s.rest → Holds d s₀ s → Argument d s₀ (do_argument n s ts)
unfolding do_argument
argument_holds n d s₀ s [] e l h = stops_bracket d s₀ s [] (e ∙ none_left) h at_the_end
argument_holds n d s₀ s (t ∷ ts) e l h =
    cond-with (Argument d s₀) (trivia t)
    (λ i. argument_holds n d s₀ s ts (e ∙ drop_trivium t ts i) (omega arith) h)
    (λ i.
    let f : drop_trivia s.rest ≡ t ∷ ts = e ∙ drop_none t ts i in
    let go : (m : ℕ) → Argument d s₀ (add (makes yes (token t (length ts) done) (taken ts)) (do_argument m (taken ts) ts)) =
    λ m. unfold add makes in
    (argument_after d s₀ (do_argument m (taken ts) ts).ans (do_argument m (taken ts) ts).shape (do_argument m (taken ts) ts).state
    (argument_holds m bumped s₀ (taken ts) ts refl (le_refl _) (holds_taken d s₀ s ts (omega arith) h))) in
    cond-all (Argument d s₀) (eqb t.kind K.LParen) (go (suc n))
    (cond-with (Argument d s₀) (eqb t.kind K.RParen)
    (λ j. depth_argument d s₀ n _ _ (stops_bracket d s₀ s (t ∷ ts) f h (ap (◌|| false) (kind_seen K.RParen t ts (unfold is_error in refl) refl j))) go)
    (λ _.
    cond-with (Argument d s₀) (eqb t.kind K.Comma)
    (λ j. depth_argument d s₀ n _ _ (stops_comma d s₀ s (t ∷ ts) f h (kind_seen K.Comma t ts (unfold is_error in refl) refl j)) (λ m. go (suc m)))
    (λ _. go n))))

-- ---------------------------------------------------------------- every action

pub act_holds : (b : Label) (a : Act) (d : Fact) (s₀ s : State) → may_act a d ≡ true → Holds d s₀ s → Holds (get (act_look a d) (perform b a s).ans (perform b a s).shape) s₀ (perform b a s).state
unfolding act_look may_act perform replies makes do_emit do_expected get
act_holds b (silent_at ks) d s₀ s m h =
    in_tested (over (map (not_in ks)) d) (over (map (seen_in ks)) d) (first_in ks (peeked s).rest) s₀ (peeked s)
    (λ e. holds_peeked (over (map (not_in ks)) d) s₀ s (holds_map (not_in ks) d s₀ s (λ x. knows_not ks x (drop_trivia s.rest) e) h))
    (λ e. holds_peeked (over (map (seen_in ks)) d) s₀ s (holds_map (seen_in ks) d s₀ s (λ x. knows_seen ks x (drop_trivia s.rest) e) h))
act_holds b P.at_end d s₀ s m h =
    in_tested (over (map not_at_end) d) (over (map at_end) d) (ended (peeked s).rest) s₀ (peeked s)
    (λ e. holds_peeked (over (map not_at_end) d) s₀ s (holds_map not_at_end d s₀ s (λ x. knows_more x (drop_trivia s.rest) e) h))
    (λ e. holds_peeked (over (map at_end) d) s₀ s (holds_map at_end d s₀ s (λ x. knows_end x (drop_trivia s.rest) e) h))
act_holds b (immediate k) d s₀ s m h = immediate_holds k d s₀ s h
act_holds b (immediate_next k) d s₀ s m h = in_tested d d (first_in (k ∷ []) (past s.rest)) s₀ s (λ _. h) (λ _. h)
act_holds b (add_expected k) d s₀ s m h = holds_pushed b k d s₀ s m h
act_holds b bump d s₀ s m h = bump_holds d s₀ s (drop_trivia s.rest) refl (holds_there d s₀ s m h) h
act_holds b (bump_name ks) d s₀ s m h = name_holds ks d s₀ s (drop_trivia s.rest) refl (first_there ks (drop_trivia s.rest) (holds_next ks d s₀ s m h)) h
act_holds b bump_argument d s₀ s m h = argument_holds 0 d s₀ s s.rest refl (le_refl _) h
act_holds b (emit m' k) d s₀ s m h = holds_peeked d s₀ s h
act_holds b emit_unclosed d s₀ s m h = holds_peeked d s₀ s h
act_holds b (less m' n) d s₀ s m h = in_tested d d (ltb m' n) s₀ s (λ _. h) (λ _. h)
