-- From judged node to judged node over the events of a skeleton: one induction. Tokens on the way are counted, and the
-- place is worked out from the count where a node is found; the Names that are reported are those that it holds.
use Rattle.std.proofs.Common.{ℕ, ◌+◌, ◌≤◌, arith, mod-eq_of_lt, ◌≡◌, refl, ap, sym, ◌∙◌, subst, Bool, true, false, cond, ◌||◌, List, ◌∷◌, ◌++◌, append_assoc, length, drop}
use Rattle.basics.specs.Word.{low}
use Rattle.definitions.specs.Token.{Token, drop_trivia, past}
use Rattle.definitions.specs.Skeleton.{Skeleton, done, token, name, node, ignored, report, over}
use Rattle.definitions.specs.Place.{after}
use Rattle.laws.proofs.Trivia.{drop_twice}
use Rattle.laws.proofs.NamesFound.{Back, curly, under, found}
use Rattle.sink.specs.Encode.{Alone, Chained}
use Rattle.token_rows.specs.declared.token.Seat.{Seat}
use Rattle.labels.specs.declared.event.Event.{Event}
use Rattle.labels.specs.declared.event.Event.TheVariants.{Start, Finish, Other}
use Rattle.labels.specs.Model.{solid_after, Out, judged_kind, node_on, nodes_on}
use Rattle.labels.proofs.JudgedNodes.{Plain, Flat}
use Rattle.labels.proofs.Taken.{Firsts, Taken}
use Rattle.labels.proofs.Alone.{alone_curly, alone_found}
use Rattle.labels.proofs.Standing.{Rep, held, File, Part, part_tokens, part_past, part_drop, part_solid, part_after, seated, solid_there, beyond, beyond_more, beyond_firsts, past_drop, firsts_length, solid_shorter, emits, emits_append}
use Rattle.labels.proofs.Alike.{Alike, alike_self, alike_by, alike_then, emits_alike}
use Rattle.labels.proofs.Told.{told}
use Rattle.labels.proofs.Walks.{not_under, plain_none, finishes, Node-judged, node_judged}

-- what a node holds: what it was made to precede, what is inside, what follows
node_found : (k m m' : ℕ) (a i o : Skeleton) (ts : List Token) → Alone a
    → found false (node k m m' a i o) ts
    ≡ found false a (drop_trivia ts)
    ++ (found (under k (curly i (after a (drop_trivia ts)))) i (after a (drop_trivia ts)) ++ found false o (after i (after a (drop_trivia ts))))
unfolding found
node_found k m m' a i o ts h =
    let w : List Token = drop_trivia ts in
    let v : List Token = after a w in
    let later : List Back = found false o (after i v) in
    ap (λ (c : Bool). found (under k (c || curly i v)) a w ++ (found (under k (c || curly i v)) i v ++ later)) (alone_curly a w h)
    ∙ ap (λ (l : List Back). l ++ (found (under k (curly i v)) i v ++ later)) (alone_found (under k (curly i v)) false a w h)

module _ (F : File) where
  abbrev bytes : List ℕ
  bytes = F.bytes

  abbrev all : List Token
  all = F.all

  abbrev first : ℕ
  first = F.first

  abbrev nodes : List Event → ℕ → Seat → Out → Out
  nodes es b at x = nodes_on bytes all first es b at x

  -- b tokens that are not trivia after the place `from`, the scan is before these tokens
  pub record Stands (b : ℕ) (at : Seat) (ts : List Token) : Type 0 where
    pub from : List Token
    pub here : Part F from
    pub at_is : at ≡ seated F from
    pub comes : drop_trivia (beyond b from) ≡ drop_trivia ts
    pub room : b + length (drop_trivia ts) ≤ length all

  stands_solid : (b : ℕ) (at : Seat) (ts : List Token) → Stands b at ts → Stands b at (drop_trivia ts)
  stands_solid b at ts s =
      record {
        from = s.from;
        here = s.here;
        at_is = s.at_is;
        comes = s.comes ∙ sym (drop_twice ts);
        room = let e : length (drop_trivia (drop_trivia ts)) ≡ length (drop_trivia ts) = ap length (drop_twice ts) in omega (arith, s.room);
      }

  -- where a count of 0 stands
  pub stands_at : (ts : List Token) → Part F ts → Stands 0 (seated F (drop_trivia ts)) ts
  unfolding beyond
  stands_at ts h =
      let g : Part F (drop_trivia ts) = part_solid F ts h in
      record { from = drop_trivia ts; here = g; at_is = refl; comes = drop_twice ts; room = omega (arith, part_tokens F (drop_trivia ts) g) }

  stands_seat : (b : ℕ) (at : Seat) (ts : List Token) → Stands b at ts → solid_after b all at ≡ seated F (drop_trivia ts)
  stands_seat b at ts s = rw s.at_is (solid_there F b s.from s.here ∙ ap (seated F) s.comes)

  -- n more of them are taken
  pub record More (n b : ℕ) (at : Seat) (ts : List Token) : Type 0 where
    pub counted : low (b + n) ≡ b + n
    pub stands : Stands (b + n) at (drop n (drop_trivia ts))

  more : (n b : ℕ) (at : Seat) (ts : List Token) → Firsts n (drop_trivia ts) → Stands b at ts → More n b at ts
  more n b at ts f s =
      let v : List Token = drop_trivia ts in
      let l : length v ≡ n + length (drop n v) = firsts_length n v f in
      let k : length (drop_trivia (drop n v)) ≤ length (drop n v) = solid_shorter (drop n v) in
      record {
        counted = mod-eq_of_lt (omega (arith, s.room, F.many));
        stands =
            record {
              from = s.from;
              here = s.here;
              at_is = s.at_is;
              comes = beyond_more b n s.from ts s.comes ∙ ap drop_trivia (beyond_firsts n v f);
              room = omega (arith, s.room);
            };
      }

  -- where a scan over a skeleton's events comes to
  pub record Reached (o : Skeleton) (ts : List Token) (b : ℕ) (at : Seat) (r : Rep) (es : List Event) : Type 0 where
    pub b' : ℕ
    pub at' : Seat
    pub last : Rep
    pub stands : Stands b' at' (after o ts)
    pub alike : Alike (emits F (found false o ts) r) last
    pub runs : nodes (told o ++ es) b at (held r) ≡ nodes es b' at' (held last)

  -- one after the other
  both_alike : (l m : List Back) (r q p : Rep) → Alike (emits F l r) q → Alike (emits F m q) p → Alike (emits F (l ++ m) r) p
  both_alike l m r q p a b = alike_then _ _ _ (alike_by _ _ (emits_append F l m r)) (alike_then _ _ _ (emits_alike F m (emits F l r) q a) b)

  -- ---------------------------------------------------------------- a node

  -- with the events before it scanned already
  module _ (k m m' : ℕ) (a i o : Skeleton) (ts : List Token) (r : Rep) (es : List Event) where
    abbrev w : List Token
    w = drop_trivia ts

    abbrev v : List Token
    v = after a w

    abbrev x : List Token
    x = after i v

    abbrev end : List Event
    end = Finish ∷ (told o ++ es)

    abbrev from_start : List Event
    from_start = Start k ∷ (told i ++ end)

    split : told (node k m m' a i o) ++ es ≡ told a ++ from_start
    unfolding told
    split =
        append_assoc (told a) (Start k ∷ (told i ++ (Finish ∷ told o))) es
        ∙ ap (λ (l : List Event). told a ++ (Start k ∷ l)) (append_assoc (told i) (Finish ∷ told o) es)

    -- what the node itself does: it is judged, or not
    pub record Started (b : ℕ) (at : Seat) (q : Rep) : Type 0 where
      pub b' : ℕ
      pub at' : Seat
      pub last : Rep
      pub stands : Stands b' at' v
      pub runs : nodes from_start b at (held q) ≡ nodes (told i ++ end) b' at' (held last)
      -- and what is inside it then adds nothing that is not counted
      pub rest : (p : Rep) → Alike (emits F (found false i v) last) p → Alike (emits F (found (under k (curly i v)) i v) q) p

    started : (b : ℕ) (at : Seat) (q : Rep) → Part F v → Chained i → Taken i v → (judged_kind k ≡ true → Plain i) → Stands b at v → Started b at q
    unfolding nodes_on emits
    started b at q h c t p s = go (judged_kind k) refl
      where
        place : Seat
        place = solid_after b all at

        there : place ≡ seated F (drop_trivia v)
        there = stands_seat b at v s

        judge : Seat → Out
        judge y = node_on bytes all first k (told i ++ end) y (held q)

        runs_by : (d : Bool) → judged_kind k ≡ d
            → nodes from_start b at (held q) ≡ cond d (nodes (told i ++ end) 0 place (judge place)) (nodes (told i ++ end) b at (held q))
        runs_by d e = ap (λ (c : Bool). cond c (nodes (told i ++ end) 0 place (judge place)) (nodes (told i ++ end) b at (held q))) e

        go : (d : Bool) → judged_kind k ≡ d → Started b at q
        go false e =
            let u : found (under k (curly i v)) i v ≡ found false i v = ap (λ (c : Bool). found c i v) (not_under k (curly i v) e) in
            record {
              b' = b;
              at' = at;
              last = q;
              stands = s;
              runs = runs_by false e;
              rest = λ y z. alike_then _ _ _ (alike_by _ _ (ap (λ (l : List Back). emits F l q) u)) z;
            }
        go true e =
            let n : Node-judged F k i v end q = node_judged F k i v end q e h c (p e) t (finishes F (told o ++ es)) in
            record {
              b' = 0;
              at' = seated F (drop_trivia v);
              last = n.last;
              stands = stands_at v h;
              runs = runs_by true e ∙ ap (λ (y : Seat). nodes (told i ++ end) 0 y (judge y)) there ∙ ap (nodes (told i ++ end) 0 _) n.runs;
              rest = λ y z. alike_then _ _ _ n.alike (alike_then _ _ _ (alike_by _ _ (ap (λ (l : List Back). emits F l n.last) (sym (plain_none i v (p e))))) z);
            }

  -- ---------------------------------------------------------------- the induction

  -- THE SCAN
  pub scan : (o : Skeleton) (ts : List Token) (b : ℕ) (at : Seat) (r : Rep) (es : List Event) → Chained o → Flat o → Taken o ts → Part F ts → Stands b at ts
      → Reached o ts b at r es
  unfolding told after Taken Chained Flat found nodes_on emits
  scan done ts b at r es c f t h s = record { b' = b; at' = at; last = r; stands = s; alike = alike_self r; runs = refl }
  scan (token y m o) ts b at r es c f (g, t) h s =
      let v : List Token = drop_trivia ts in
      let n : More 1 b at ts = more 1 b at ts g s in
      let p : Stands (b + 1) at (past v) = subst (Stands (b + 1) at) (past_drop v) n.stands in
      let q : Reached o (past v) (b + 1) at r es = scan o (past v) (b + 1) at r es c f t (part_past F v (part_solid F ts h)) p in
      record {
        b' = q.b';
        at' = q.at';
        last = q.last;
        stands = q.stands;
        alike = q.alike;
        runs = ap (λ (j : ℕ). nodes (told o ++ es) j at (held r)) n.counted ∙ q.runs;
      }
  scan (name raw m o) ts b at r es c f (g, t) h s =
      let v : List Token = drop_trivia ts in
      let k : ℕ = length raw in
      let n : More k b at ts = more k b at ts g s in
      let q : Reached o (drop k v) (b + k) at r es = scan o (drop k v) (b + k) at r es c f t (part_drop F k v (part_solid F ts h)) n.stands in
      record {
        b' = q.b';
        at' = q.at';
        last = q.last;
        stands = q.stands;
        alike = q.alike;
        runs = ap (λ (j : ℕ). nodes (told o ++ es) j at (held r)) n.counted ∙ q.runs;
      }
  scan (node k m m' a i o) ts b at r es (alone, (ca, (ci, co))) (fk, (fa, (fi, fo))) (ta, (ti, to)) h s =
      let w : List Token = drop_trivia ts in
      let v : List Token = after a w in
      let x : List Token = after i v in
      let hw : Part F w = part_solid F ts h in
      let hv : Part F v = part_after F a w hw in
      let end : List Event = Finish ∷ (told o ++ es) in
      let A : Reached a w b at r (Start k ∷ (told i ++ end)) = scan a w b at r (Start k ∷ (told i ++ end)) ca fa ta hw (stands_solid b at ts s) in
      let S : Started k m m' a i o ts r es A.b' A.at' A.last = started k m m' a i o ts r es A.b' A.at' A.last hv ci ti fk A.stands in
      let I : Reached i v S.b' S.at' S.last end = scan i v S.b' S.at' S.last end ci fi ti hv S.stands in
      let O : Reached o x I.b' I.at' I.last es = scan o x I.b' I.at' I.last es co fo to (part_after F i v hv) I.stands in
      record {
        b' = O.b';
        at' = O.at';
        last = O.last;
        stands = O.stands;
        alike =
            alike_then _ _ _ (alike_by _ _ (ap (λ (l : List Back). emits F l r) (node_found k m m' a i o ts alone)))
            (both_alike (found false a w) _ r A.last O.last A.alike
            (both_alike (found (under k (curly i v)) i v) (found false o x) A.last I.last O.last (S.rest I.last I.alike) O.alike));
        runs = ap (λ (l : List Event). nodes l b at (held r)) (split k m m' a i o ts r es) ∙ A.runs ∙ S.runs ∙ I.runs ∙ O.runs;
      }
  scan (ignored m m' a i o) ts b at r es (alone, (ca, (ci, co))) (fa, (fi, fo)) (ta, (ti, to)) h s =
      let v : List Token = after a ts in
      let x : List Token = after i v in
      let hv : Part F v = part_after F a ts h in
      let end : List Event = Other ∷ (told o ++ es) in
      let A : Reached a ts b at r (Other ∷ (told i ++ end)) = scan a ts b at r (Other ∷ (told i ++ end)) ca fa ta h s in
      let I : Reached i v A.b' A.at' A.last end = scan i v A.b' A.at' A.last end ci fi ti hv A.stands in
      let O : Reached o x I.b' I.at' I.last es = scan o x I.b' I.at' I.last es co fo to (part_after F i v hv) I.stands in
      record {
        b' = O.b';
        at' = O.at';
        last = O.last;
        stands = O.stands;
        alike =
            both_alike (found false a ts) _ r A.last O.last A.alike
            (both_alike (found false i v) (found false o x) A.last I.last O.last I.alike O.alike);
        runs =
            ap (λ (l : List Event). nodes l b at (held r)) (append_assoc (told a) (Other ∷ (told i ++ (Other ∷ told o))) es)
            ∙ ap (λ (l : List Event). nodes (told a ++ (Other ∷ l)) b at (held r)) (append_assoc (told i) (Other ∷ told o) es)
            ∙ A.runs
            ∙ I.runs
            ∙ O.runs;
      }
  scan (report y o) ts b at r es c f t h s =
      let q : Reached o ts b at r es = scan o ts b at r es c f t h s in
      record { b' = q.b'; at' = q.at'; last = q.last; stands = q.stands; alike = q.alike; runs = q.runs }
  scan (over m o) ts b at r es c f t h s =
      let q : Reached o ts b at r es = scan o ts b at r es c f t h s in
      record { b' = q.b'; at' = q.at'; last = q.last; stands = q.stands; alike = q.alike; runs = q.runs }
