-- What is told, in steps.
use Rattle.std.proofs.Common.{◌≡◌, ℕ, List, [], ◌++◌, Option, Some, None, refl, sym, ap, append_assoc, append-nil}
use Rattle.relay_ports.specs.Told.{grown, prefixed}

pub grown_twice : (told : Option (List ℕ)) (xs ys : List ℕ) → grown (grown told xs) ys ≡ grown told (xs ++ ys)
grown_twice None xs ys = refl
grown_twice (Some zs) xs ys = ap Some (append_assoc zs xs ys)

pub grown_nothing : (told : Option (List ℕ)) → grown told [] ≡ told
grown_nothing None = refl
grown_nothing (Some zs) = ap Some (append-nil zs)

pub prefixed_twice : (told : Option (List ℕ)) (xs ys : List ℕ) → prefixed xs (prefixed ys told) ≡ prefixed (xs ++ ys) told
prefixed_twice None xs ys = refl
prefixed_twice (Some zs) xs ys = ap Some (sym (append_assoc xs ys zs))

pub prefixed_nothing : (told : Option (List ℕ)) → told ≡ prefixed [] told
prefixed_nothing None = refl
prefixed_nothing (Some zs) = refl
