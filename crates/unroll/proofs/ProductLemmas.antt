-- The products of targets, one factor at a time.
use Rattle.std.proofs.Common.{◌≡◌, ◌+◌, ◌<◌, Bool, true, false, List, [], ◌∷◌, length, refl, sym, ap, ◌∙◌, subst, arith}
use Rattle.std.specs.Prelude.{◌==◌, not}
use Rattle.std.proofs.Math.Dec.{eqb-suc-zero}
use Rattle.std.proofs.lemmas.List.Elements.{All-tail}
use Rattle.std.specs.List.{onto_first}
use Rattle.stim_parser.specs.declared.target.Target.{Target}
use Rattle.stim_parser.specs.declared.target.Target.TheVariants.{Plain, Inverted, Back, Pauli, Star}
use Rattle.stim_parser.specs.Limits.{products_of}
use Rattle.stim_parser.specs.Products.{is_joining}
use Rattle.unroll.specs.private.Pushed.{FollowsFactor, IsSmall}

-- ---- what follows a factor, where that is a star

star_ends : FollowsFactor (Star ∷ []) false []
star_ends =
    record {
      products = λ factor. refl;
      some = λ h. absurd cc;
      fewer = omega arith;
      small = λ h k d lt. absurd (omega (arith, lt));
    }

star_joins : (t : Target) (ts : List Target) → FollowsFactor (Star ∷ t ∷ ts) true (t ∷ ts)
star_joins t ts =
    record {
      products = λ factor. refl;
      some = λ h. omega arith;
      fewer = omega arith;
      small = λ h. All-tail IsSmall Star (t ∷ ts) h;
    }

pub star-follows : (star : Target) (behind after : List Target) (empty : Bool) → after ≡ star ∷ behind → is_joining star ≡ true → empty ≡ (length behind == 0) → FollowsFactor after (not empty) behind
star-follows Star [] after empty cut joins none =
    subst (λ (b : Bool). FollowsFactor after (not b) []) (sym none)
    (subst (λ (ts : List Target). FollowsFactor ts false []) (sym cut) star_ends)
star-follows Star (t ∷ ts) after empty cut joins none =
    subst (λ (b : Bool). FollowsFactor after (not b) (t ∷ ts)) (sym (none ∙ eqb-suc-zero (length ts)))
    (subst (λ (us : List Target). FollowsFactor us true (t ∷ ts)) (sym cut) (star_joins t ts))
star-follows (Plain q) behind after empty cut joins none = absurd cc
star-follows (Inverted q) behind after empty cut joins none = absurd cc
star-follows (Back k) behind after empty cut joins none = absurd cc
star-follows (Pauli inverted l q) behind after empty cut joins none = absurd cc

-- ---- where there is a factor there is a product

onto_some : (t : Target) (ps : List (List Target)) → 0 < length (onto_first t ps)
onto_some t [] = omega arith
onto_some t (p ∷ ps) = omega arith

some_product : (t : Target) (ts : List Target) → 0 < length (products_of (t ∷ ts))
some_product t [] = omega arith
some_product t (Star ∷ ts) = onto_some t (products_of ts)
some_product t (u ∷ ts) = omega arith

pub some_products : (ts : List Target) → 0 < length ts → 0 < length (products_of ts)
some_products [] h = absurd (omega (arith, h))
some_products (t ∷ ts) h = some_product t ts

length-onto_first : (t : Target) (ps : List (List Target)) → 0 < length ps → length (onto_first t ps) ≡ length ps
length-onto_first t [] h = absurd (omega (arith, h))
length-onto_first t (p ∷ ps) h = refl

-- a factor that is joined to what follows makes no product by itself, another makes one
pub count-joined : (t : Target) (after behind : List Target) (joined : Bool) → FollowsFactor after joined behind → joined ≡ true → length (products_of (t ∷ after)) ≡ length (products_of behind)
count-joined t after behind true f h = ap length (f.products t) ∙ length-onto_first t (products_of behind) (some_products behind (f.some refl))
count-joined t after behind false f h = absurd cc

pub count-ended : (t : Target) (after behind : List Target) (joined : Bool) → FollowsFactor after joined behind → joined ≡ false → length (products_of (t ∷ after)) ≡ length (products_of behind) + 1
count-ended t after behind true f h = absurd cc
count-ended t after behind false f h = ap length (f.products t) ∙ omega arith

-- ---- their steps

-- ---- their letters
