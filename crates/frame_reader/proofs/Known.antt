-- Known bytes that stay or are consumed.
use Rattle.std.proofs.Common.{◌≡◌, ℕ, ◌+◌, ◌≤◌, List, ◌++◌, Option, Some, None, length, take, drop, sym, ap, ◌∙◌, refl, le_refl, drop_at, length-take-le, append-nil, take_all, arith}
use Rattle.std.proofs.lemmas.List.{drop_all}
use Rattle.std.specs.Io.KnownBytes.{Consumes, Keeps}

pub keeps_same : (a : Option (List ℕ)) → Keeps a a
keeps_same None = tt
keeps_same (Some xs) = refl

pub keeps_both : (a b c : Option (List ℕ)) → Keeps a b → Keeps b c → Keeps a c
keeps_both None b c k l = tt
keeps_both (Some xs) None c k l = absurd k
keeps_both (Some xs) (Some ys) None k l = absurd l
keeps_both (Some xs) (Some ys) (Some zs) k l = l ∙ k

pub keeps_consumes : (a b c : Option (List ℕ)) (bs : List ℕ) → Keeps a b → Consumes b c bs → Consumes a c bs
keeps_consumes None b c bs k l = tt
keeps_consumes (Some xs) None c bs k l = absurd k
keeps_consumes (Some xs) (Some ys) None bs k l = absurd l
keeps_consumes (Some xs) (Some ys) (Some zs) bs k l = sym k ∙ l

-- a block whose bytes were all lent begins with those that it has now
pub lent_all : (n len : ℕ) (new items : List ℕ) → length new ≡ length items → len ≡ length items → take n new ≡ take n (take len (new ++ drop (length new) items))
lent_all n len new items same long =
    ap (take n) (sym (ap (λ w. take len (new ++ w)) (drop_all (length new) items (omega (arith, same))) ∙ ap (take len) (append-nil new) ∙ take_all len new (omega (arith, same, long))))
