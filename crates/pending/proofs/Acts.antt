-- Each action of two runs, side by side, if a push and a report go together (`Keeps`): the others do not look at the
-- pending list, or clear it.
use Prim.Native.Nat.{ℕ, zero, suc}
use mathlib.Core.Path.{◌≡◌, refl}
use mathlib.Core.Bool.{Bool, true, false, cond}
use mathlib.Core.List.{List, [], ◌∷◌}
use lib.Dec.{eqb}
use lib.ListN.{length}
use Rattle.definitions.specs.TokenKind as K
use Rattle.definitions.specs.Errors as E
use Rattle.definitions.specs.Token.{Token, trivia, drop_trivia}
use Rattle.definitions.specs.Prog.{Ans, no, yes, Act, silent_at, at_end, immediate, immediate_next, add_expected, bump, bump_name, bump_argument, emit, emit_unclosed, less, act}
use Rattle.definitions.specs.Skeleton.{Label, no_label, done, token, name}
use Rattle.definitions.specs.Run.{State, Out, peeked, replies, makes, taken, do_bump, stretch_of, do_name, add, at_depth, do_argument, do_emit, do_expected}
use Rattle.definitions.specs.Run as Run
use Rattle.run_steps.specs.Steps.{begun}
use Rattle.facts.proofs.Good.{Good}
use Rattle.pending.specs.Once.{once}
use Rattle.pending.specs.RunBy.{Way}
use Rattle.pending.specs.RunBy as RunBy
use Rattle.pending.proofs.Alike.{Terms, no_more, tokens, names}
use Rattle.pending.proofs.Together.{shrunk, Settled, Together, then, idle}

-- what is asked of the other run's list
pub record Keeps (c : Terms) (v : Way) : Type 0 where
  pub push : (k : ℕ) (f : Bool) (s : State) → Settled f s.pending → (f ≡ false → Good (begun (act (add_expected k)) (shrunk s))) → Together c f f [] (v.push k s) (do_expected k (shrunk s))
  pub emit : (m h : ℕ) (l : Label) (f : Bool) (s : State) → Settled f s.pending → Together c f f [] (do_emit m h l (v.write m s)) (do_emit m h l (shrunk s))

module _ (c : Terms) where
  -- nothing is pending
  cleared : (f : Bool) → Settled f []
  unfolding once
  cleared f = record { test = λ _ u. refl }

  -- two runs, side by side from f on
  abbrev Beside : Bool → Out → Out → Type 0
  Beside f o n = Together c f f [] o n

  bump_beside : (f : Bool) (s : State) (l : List Token) → Settled f s.pending → Beside f (do_bump s l) (do_bump (shrunk s) l)
  unfolding do_bump replies makes once
  bump_beside f s [] d = idle c f [] s yes 0 tt d
  bump_beside f s (t ∷ ts) d =
      record { what = token t (length ts) done; same = refl; piece = record { after = f; made = tokens t (length ts) no_more; settled = cleared f; free = λ e. (e, tt) } }

  name_beside : (ks : List ℕ) (f : Bool) (s : State) (l : List Token) → Settled f s.pending → Beside f (do_name ks s l) (do_name ks (shrunk s) l)
  unfolding do_name replies makes once
  name_beside ks f s [] d = idle c f [] s yes 0 tt d
  name_beside ks f s (t ∷ ts) d =
      record {
        what = name (t ∷ (stretch_of ks ts).raw) (length (stretch_of ks ts).after) done;
        same = refl;
        piece = record { after = f; made = names (t ∷ (stretch_of ks ts).raw) (length (stretch_of ks ts).after) no_more; settled = cleared f; free = λ e. (e, tt) };
      }

  cond_beside : (f : Bool) (b : Bool) (o n x y : Out) → Beside f o n → Beside f x y → Beside f (cond b o x) (cond b n y)
  cond_beside f true o n x y p q = p
  cond_beside f false o n x y p q = q

  depth_beside : (f : Bool) (k : ℕ) (o n : Out) (g h : ℕ → Out) → Beside f o n → ((m : ℕ) → Beside f (g m) (h m)) → Beside f (at_depth k o g) (at_depth k n h)
  unfolding at_depth
  depth_beside f zero o n g h p q = p
  depth_beside f (suc k) o n g h p q = q k

  -- a token is taken, and then x or y
  token_then : (f : Bool) (t : Token) (ts : List Token) (x y : Out) → Beside f x y → Beside f (add (makes yes (token t (length ts) done) (taken ts)) x) (add (makes yes (token t (length ts) done) (taken ts)) y)
  unfolding makes once
  token_then f t ts x y w =
      then c f f [] [] (makes yes (token t (length ts) done) (taken ts)) x y (token t (length ts) done)
      (record { after = f; made = tokens t (length ts) no_more; settled = cleared f; free = λ e. (e, tt) }) (λ _. tt) (λ _. w)

  stay : (f : Bool) (s : State) (a : Ans) (ts : List Token) → Settled f s.pending
      → Beside f (replies a (record { rest = ts; since = s.since; pending = s.pending })) (replies a (record { rest = ts; since = s.since; pending = once s.pending }))
  unfolding replies
  stay f s a ts d = idle c f [] (record { rest = ts; since = s.since; pending = s.pending }) a 0 tt d

  argument_beside : (k : ℕ) (f : Bool) (s : State) (ts : List Token) → Settled f s.pending → Beside f (do_argument k s ts) (do_argument k (shrunk s) ts)
  unfolding do_argument once
  argument_beside k f s [] d = stay f s no [] d
  argument_beside k f s (t ∷ ts) d =
      let go : (m : ℕ) → Beside f (add (makes yes (token t (length ts) done) (taken ts)) (do_argument m (taken ts) ts)) (add (makes yes (token t (length ts) done) (taken ts)) (do_argument m (taken ts) ts)) =
      λ m. token_then f t ts (do_argument m (taken ts) ts) (do_argument m (taken ts) ts) (argument_beside m f (taken ts) ts (cleared f)) in
      cond_beside f (trivia t) _ _ _ _ (argument_beside k f s ts d)
      (cond_beside f (eqb t.kind K.LParen) _ _ _ _ (go (suc k))
      (cond_beside f (eqb t.kind K.RParen) _ _ _ _ (depth_beside f k _ _ _ _ (stay f s no (t ∷ ts) d) go)
      (cond_beside f (eqb t.kind K.Comma) _ _ _ _ (depth_beside f k _ _ _ _ (stay f s yes (t ∷ ts) d) (λ m. go (suc m))) (go k))))

  pub act_follows : (v : Way) → Keeps c v → (b : Label) (a : Act) (f : Bool) (s : State) → Settled f s.pending → (f ≡ false → Good (begun (act a) (shrunk s)))
      → Together c f f [] (RunBy.perform v b a s) (Run.perform b a (shrunk s))
  unfolding RunBy.perform Run.perform peeked replies
  act_follows v K b (silent_at ks) f s d e = idle c f [] (peeked s) _ 0 tt d
  act_follows v K b at_end f s d e = idle c f [] (peeked s) _ 0 tt d
  act_follows v K b (immediate k) f s d e = idle c f [] s _ 0 tt d
  act_follows v K b (immediate_next k) f s d e = idle c f [] s _ 0 tt d
  act_follows v K b (add_expected k) f s d e = K.push k f s d e
  act_follows v K b bump f s d e = bump_beside f (peeked s) (drop_trivia s.rest) d
  act_follows v K b (bump_name ks) f s d e = name_beside ks f (peeked s) (drop_trivia s.rest) d
  act_follows v K b bump_argument f s d e = argument_beside 0 f s s.rest d
  act_follows v K b (emit m h) f s d e = K.emit m h no_label f (peeked s) d
  act_follows v K b emit_unclosed f s d e = K.emit E.unclosed_node E.no_hint b f (peeked s) d
  act_follows v K b (less m n) f s d e = idle c f [] s _ 0 tt d
