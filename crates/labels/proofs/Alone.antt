-- What a marker was made to precede.
use Rattle.std.proofs.Common.{◌≡◌, refl, Bool, false, List}
use Rattle.definitions.specs.Token.{Token}
use Rattle.definitions.specs.Skeleton.{Skeleton, done, token, name, node, ignored, report, over}
use Rattle.laws.proofs.NamesFound.{curly, found}
use Rattle.sink.specs.Encode.{Alone}

-- what a marker was made to precede holds no LCurly and no Name outside its node
pub alone_curly : (a : Skeleton) (ts : List Token) → Alone a → curly a ts ≡ false
unfolding curly
alone_curly done ts h = refl
alone_curly (token t m o) ts h = absurd h
alone_curly (name r m o) ts h = absurd h
alone_curly (node k m m' a i o) ts h = rw h refl
alone_curly (ignored m m' a i o) ts h = absurd h
alone_curly (report r o) ts h = absurd h
alone_curly (over m o) ts h = absurd h

pub alone_found : (u v : Bool) (a : Skeleton) (ts : List Token) → Alone a → found u a ts ≡ found v a ts
unfolding found
alone_found u v done ts h = refl
alone_found u v (token t m o) ts h = absurd h
alone_found u v (name r m o) ts h = absurd h
alone_found u v (node k m m' a i o) ts h = rw h refl
alone_found u v (ignored m m' a i o) ts h = absurd h
alone_found u v (report r o) ts h = absurd h
alone_found u v (over m o) ts h = absurd h
