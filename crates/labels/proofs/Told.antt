-- The events of a skeleton, as the code reads them.
use Rattle.std.proofs.Common.{ℕ, suc, ◌≡◌, refl, ap, sym, ◌∙◌, Bool, true, false, List, [], ◌∷◌, ◌++◌, append_assoc, append-nil, length}
use Rattle.definitions.specs.Skeleton.{Skeleton, done, token, name, node, ignored, report, over}
use Rattle.definitions.specs.Event.{forward, events}
use Rattle.definitions.specs.Layout.{PLACEHOLDER, FINISH_NODE}
use Rattle.machine.specs.Encode.{start_tag, encode}
use Rattle.labels.specs.declared.event.Event.{Event}
use Rattle.labels.specs.declared.event.Event.TheVariants.{Start, Token, Name, Finish, Other}
use Rattle.labels.specs.Model.{event_of, shown}

unfoldable pub told : Skeleton → List Event
told done = []
told (token t m o) = Token ∷ told o
told (name raw m o) = Name (length raw) ∷ told o
told (node k m m' a i o) = told a ++ (Start k ∷ (told i ++ (Finish ∷ told o)))
told (ignored m m' a i o) = told a ++ (Other ∷ (told i ++ (Other ∷ told o)))
told (report r o) = Other ∷ told o
told (over m o) = told o

start_told : (a : Skeleton) (k : ℕ) → event_of (start_tag a) k ≡ Start k
start_told done k = refl
start_told (token t m o) k = refl
start_told (name ts m o) k = refl
start_told (node j m m' a i o) k = refl
start_told (ignored m m' a i o) k = refl
start_told (report r o) k = refl
start_told (over m o) k = refl

-- and then others
told_encoded : (l : Bool) (o : Skeleton) (x : List ℕ) → shown (encode l o ++ x) ≡ told o ++ shown x
unfolding encode told shown
told_encoded l done x = refl
told_encoded l (token t n o) x = ap (Token ∷◌) (told_encoded l o x)
told_encoded l (name raw n o) x = ap (Name (length raw) ∷◌) (told_encoded l o x)
told_encoded l (node k n n' a i o) x =
    let d : ℕ = forward l (suc (suc (length (events false i)))) in
    let end : List ℕ = FINISH_NODE ∷ 0 ∷ 0 ∷ encode l o in
    let inner : List ℕ = encode false i ++ end in
    ap shown (append_assoc (encode true a) (start_tag a ∷ k ∷ d ∷ inner) x)
    ∙ told_encoded true a (start_tag a ∷ k ∷ d ∷ (inner ++ x))
    ∙ ap (λ (e : Event). told a ++ (e ∷ shown (inner ++ x))) (start_told a k)
    ∙ ap (λ (q : List Event). told a ++ (Start k ∷ q))
    (ap shown (append_assoc (encode false i) end x)
    ∙ told_encoded false i (end ++ x)
    ∙ ap (λ (q : List Event). told i ++ (Finish ∷ q)) (told_encoded l o x)
    ∙ sym (append_assoc (told i) (Finish ∷ told o) (shown x)))
    ∙ sym (append_assoc (told a) (Start k ∷ (told i ++ (Finish ∷ told o))) (shown x))
told_encoded l (ignored n n' a i o) x =
    let end : List ℕ = PLACEHOLDER ∷ 0 ∷ 0 ∷ encode l o in
    let inner : List ℕ = encode false i ++ end in
    ap shown (append_assoc (encode true a) (PLACEHOLDER ∷ 0 ∷ 0 ∷ inner) x)
    ∙ told_encoded true a (PLACEHOLDER ∷ 0 ∷ 0 ∷ (inner ++ x))
    ∙ ap (λ (q : List Event). told a ++ (Other ∷ q))
    (ap shown (append_assoc (encode false i) end x)
    ∙ told_encoded false i (end ++ x)
    ∙ ap (λ (q : List Event). told i ++ (Other ∷ q)) (told_encoded l o x)
    ∙ sym (append_assoc (told i) (Other ∷ told o) (shown x)))
    ∙ sym (append_assoc (told a) (Other ∷ (told i ++ (Other ∷ told o))) (shown x))
told_encoded l (report r o) x = ap (Other ∷◌) (told_encoded l o x)
told_encoded l (over n o) x = told_encoded l o x

pub told_run : (o : Skeleton) → shown (encode false o) ≡ told o
unfolding shown
told_run o = ap shown (sym (append-nil (encode false o))) ∙ told_encoded false o [] ∙ append-nil (told o)
