-- Readings, one after another.
use Rattle.std.proofs.Common.{◌≡◌, ℕ, ◌+◌, ◌-◌, ◌≤◌, List, [], ◌++◌, Option, length, max, take, drop, length-drop, append-nil, refl, sym, ap, ◌∙◌, subst, arith}
use Rattle.std.specs.Prelude.{IfSome, Some, None, ◌↔◌}
use Rattle.std.proofs.Math.Seq.{take-append-add, drop-append-add}
use Rattle.std.proofs.lemmas.List.{take-append-le, length-take-le, drop-append-le, drop-drop, drop_all, take_all}
use Rattle.relay_ports.specs.States.{SourceState, TellsEnd}
use Rattle.relay_ports.specs.Calls.{Gave, ReadFailed}
use Rattle.relay_ports.specs.Told.{calls_after, counted, grown, prefixed}
use Rattle.buffered_io.specs.Reading.{Read, ReadFailing, IsAtEnd}
use Rattle.buffered_io.proofs.Told.{grown_twice, grown_nothing, prefixed_twice, prefixed_nothing}

-- what was asked for at most, by two readings one after another
most_both : (a b c size : ℕ) → b ≤ max a size → c ≤ max b size → c ≤ max a size
most_both a b c size first second = omega (arith, first, second)

-- one call asks for no more than its slice
most_once : (a b size most : ℕ) → b ≡ max a size → size ≤ most → b ≤ max a most
most_once a b size most is fits = omega (arith, is, fits)

-- more would have been allowed
most_wider : (a b size most : ℕ) → size ≤ most → b ≤ max a size → b ≤ max a most
most_wider a b size most fits within = omega (arith, fits, within)

pub read_nothing : (size : ℕ) (s : SourceState) → Read size [] s s
read_nothing size s = record {
  state = λ i. record s { given = sym (grown_nothing s.given) i };
  left = prefixed_nothing s.left;
  after = λ none. refl;
  longest = omega arith;
}

-- a reading by shorter slices is one by longer slices
pub read_wider : {size most : ℕ} {xs : List ℕ} {s t : SourceState} → size ≤ most → Read size xs s t → Read most xs s t
read_wider {size} {most} {xs} {s} {t} fits r = record {
  state = r.state;
  left = r.left;
  after = r.after;
  longest = most_wider s.longest t.longest size most fits r.longest;
}

pub failing_wider : {size most : ℕ} {xs : List ℕ} {s t : SourceState} → size ≤ most → ReadFailing size xs s t → ReadFailing most xs s t
failing_wider {size} {most} {xs} {s} {t} fits r = record {
  state = r.state;
  left = r.left;
  after = r.after;
  longest = most_wider s.longest t.longest size most fits r.longest;
}

-- some bytes and then others
pub read_both : {size : ℕ} {s t r : SourceState} {xs ys : List ℕ} → Read size xs s t → Read size ys t r → Read size (xs ++ ys) s r
read_both {size} {s} {t} {r} {xs} {ys} a b = record {
  state = λ i. record {
    given = (ap (λ (x : SourceState). x.given) b.state ∙ ap (λ (x : SourceState). grown x.given ys) a.state ∙ grown_twice s.given xs ys) i;
    left = r.left;
    faults = (ap (λ (x : SourceState). x.faults) b.state ∙ ap (λ (x : SourceState). x.faults) a.state) i;
    after = r.after;
    longest = r.longest;
  };
  left = a.left ∙ ap (λ x. prefixed xs x) b.left ∙ prefixed_twice r.left xs ys;
  after = λ none. b.after (ap (λ (x : SourceState). x.faults) a.state ∙ none) ∙ a.after none;
  longest = most_both s.longest t.longest r.longest size a.longest b.longest;
}

-- some bytes, then others, and then a failure
pub read_failing : {size : ℕ} {s t r : SourceState} {xs ys : List ℕ} → Read size xs s t → ReadFailing size ys t r → ReadFailing size (xs ++ ys) s r
read_failing {size} {s} {t} {r} {xs} {ys} a b = record {
  state = λ i. record {
    given = (ap (λ (x : SourceState). x.given) b.state ∙ ap (λ (x : SourceState). grown x.given ys) a.state ∙ grown_twice s.given xs ys) i;
    left = r.left;
    faults = (ap (λ (x : SourceState). x.faults) b.state ∙ ap (λ (x : SourceState). counted x.faults) a.state) i;
    after = r.after;
    longest = r.longest;
  };
  left = a.left ∙ ap (λ x. prefixed xs x) b.left ∙ prefixed_twice r.left xs ys;
  after = λ none. b.after (ap (λ (x : SourceState). x.faults) a.state ∙ none) ∙ a.after none;
  longest = most_both s.longest t.longest r.longest size a.longest b.longest;
}

-- one call is a reading
pub gave_read : (size most : ℕ) (s t : SourceState) (xs : List ℕ) → size ≤ most → Gave size xs s t → Read most xs s t
gave_read size most s t xs fits g = record {
  state = λ i. record {
    given = ap (λ (x : SourceState). x.given) g.0 i;
    left = t.left;
    faults = ap (λ (x : SourceState). x.faults) g.0 i;
    after = t.after;
    longest = t.longest;
  };
  left = g.1;
  after = λ none. ap (λ (x : SourceState). x.after) g.0 ∙ ap (λ n. calls_after n s.after) none;
  longest = most_once s.longest t.longest size most (ap (λ (x : SourceState). x.longest) g.0) fits;
}

-- a call that failed
pub lost_read : (size most : ℕ) (s t : SourceState) → size ≤ most → ReadFailed size s t → ReadFailing most [] s t
lost_read size most s t fits e = record {
  state = λ i. record {
    given = (ap (λ (x : SourceState). x.given) e ∙ sym (grown_nothing s.given)) i;
    left = t.left;
    faults = ap (λ (x : SourceState). x.faults) e i;
    after = t.after;
    longest = t.longest;
  };
  left = sym (ap (λ (x : SourceState). x.left) e) ∙ prefixed_nothing t.left;
  after = λ none. ap (λ (x : SourceState). x.after) e ∙ ap (λ n. calls_after n s.after) none;
  longest = most_once s.longest t.longest size most (ap (λ (x : SourceState). x.longest) e) fits;
}

pub same_read : {size : ℕ} {s t : SourceState} {xs ys : List ℕ} → xs ≡ ys → Read size xs s t → Read size ys s t
same_read {size} {s} {t} {xs} {ys} e h = let P : List ℕ → Type 0 = λ x. Read size x s t in subst P e h

pub same_failing : {size : ℕ} {s t : SourceState} {xs ys : List ℕ} → xs ≡ ys → ReadFailing size xs s t → ReadFailing size ys s t
same_failing {size} {s} {t} {xs} {ys} e h = let P : List ℕ → Type 0 = λ x. ReadFailing size x s t in subst P e h

-- the first bytes of a block, of which a part was overwritten
pub filled : (block into post : List ℕ) (at n : ℕ) → at ≤ length block → n ≤ length into → take at block ++ take n into ≡ take (at + n) (take at block ++ (into ++ post))
filled block into post at n within fits =
    ap (λ w. take at block ++ w) (sym (take-append-le n into post fits))
    ∙ sym (take-append-add (take at block) (into ++ post) n)
    ∙ ap (λ w. take (w + n) (take at block ++ (into ++ post))) (length-take-le at block within)

-- no byte was overwritten
pub filled_none : (block into post : List ℕ) (at n : ℕ) → at ≤ length block → n ≡ 0 → take at block ++ take n into ≡ take at (take at block ++ (into ++ post))
filled_none block into post at n within none =
    ap (λ m. take at block ++ take m into) none
    ∙ filled block into post at 0 within (omega arith)
    ∙ ap (λ m. take m (take at block ++ (into ++ post))) (zero_more at)
  where
    zero_more : (m : ℕ) → m + 0 ≡ m
    zero_more m = omega arith

-- a source that gave nothing, since it has nothing
pub at_end : (size : ℕ) (s t : SourceState) (into : List ℕ) (n : ℕ) → n ≡ 0 → Gave size (take n into) s t → TellsEnd n s → IsAtEnd t
at_end size s t into n none g tells =
    nothing_left s.left t.left (g.1 ∙ ap (λ m. prefixed (take m into) t.left) none ∙ sym (prefixed_nothing t.left)) tells
  where
    nothing_left : (a b : Option (List ℕ)) → a ≡ b → IfSome a (λ xs. (n ≡ 0) ↔ (xs ≡ [])) → IfSome b (λ xs. xs ≡ [])
    nothing_left None b e h = let P : Option (List ℕ) → Type 0 = λ o. IfSome o (λ xs. xs ≡ []) in subst P e tt
    nothing_left (Some xs) b e h = let P : Option (List ℕ) → Type 0 = λ o. IfSome o (λ xs. xs ≡ []) in subst P e (h.0 none)

-- what lies behind the bytes that came stays, where it stayed before and this call left it
pub kept_behind : (first now : Option (List ℕ)) (xs start block into : List ℕ) (at n : ℕ) → now ≡ grown first xs → at ≤ length block → n ≤ length into
    → IfSome first (λ _. drop at block ≡ drop at start) → IfSome now (λ _. drop n into ≡ drop n (take (length block - at) (drop at block)))
    → IfSome first (λ _. drop (at + n) (take at block ++ (into ++ drop (length block - at) (drop at block))) ≡ drop (at + n) start)
kept_behind None now xs start block into at n is within fits before behind = tt
kept_behind (Some ys) now xs start block into at n is within fits before behind =
    let K : Option (List ℕ) → Type 0 = λ o. IfSome o (λ _. drop n into ≡ drop n (take (length block - at) (drop at block))) in
    let kept = subst K is behind in
    let rest : length (drop at block) ≤ length block - at = omega (arith, length-drop at block) in
    let post = drop (length block - at) (drop at block) in
    let none : post ≡ [] = drop_all (length block - at) (drop at block) rest in
    ap (λ m. drop (m + n) (take at block ++ (into ++ post))) (sym (length-take-le at block within))
    ∙ drop-append-add (take at block) (into ++ post) n
    ∙ drop-append-le n into post fits
    ∙ ap (λ w. drop n into ++ w) none
    ∙ append-nil (drop n into)
    ∙ kept
    ∙ ap (λ w. drop n w) (take_all (length block - at) (drop at block) rest ∙ before)
    ∙ drop-drop n at start
