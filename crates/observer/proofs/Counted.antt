-- Whole frames, counted batch by batch.
use Rattle.std.proofs.Common.{◌≡◌, ℕ, zero, suc, ◌+◌, ◌-◌, ◌^◌, ◌<◌, ◌≤◌, min, Bool, true, false, nat_lt, if◌then◌else◌, List, [], ◌∷◌, ◌++◌, length, drop, get_or, refl, sym, ap, ◌∙◌, arith}
use Rattle.std.proofs.lemmas.List.{drop_all}
use Rattle.frame_head.specs.declared.out.Out.{Out}
use Rattle.frame_head.specs.Framed.{framed, framed_text, whole_frames}
use Rattle.frame_head.proofs.Written.{whole_laws}
use Rattle.frame_batch.specs.Batches.{Batched}
use Rattle.observer.specs.Drains.{saturated}
use Rattle.observer.specs.Items.{frames_in}

-- no frame is left
pub frames_none : (i : ℕ) (bs : List Batched) → length bs ≤ i → frames_in (drop i bs) ≡ []
frames_none i bs all = ap frames_in (drop_all i bs all)

-- the frames of a batch come first
pub frames_next : (i : ℕ) (bs : List Batched) (b d : Batched) → i < length bs → b ≡ get_or bs i d → frames_in (drop i bs) ≡ b.frames ++ frames_in (drop (i + 1) bs)
frames_next i [] b d within is = absurd (omega (arith, within))
frames_next zero (x ∷ bs) b d within is =
    ap (λ (y : Batched). y.frames ++ frames_in bs) (sym is)
    ∙ ap (λ (n : ℕ). b.frames ++ frames_in (drop n (x ∷ bs))) (let one : suc zero ≡ zero + 1 = omega arith in one)
frames_next (suc i) (x ∷ bs) b d within is =
    frames_next i bs b d (omega (arith, within)) is
    ∙ ap (λ (n : ℕ). b.frames ++ frames_in (drop n (x ∷ bs))) (let e : suc (i + 1) ≡ suc i + 1 = omega arith in e)

short_by : (b : Bool) (j k l : ℕ) → (if b then 0 else suc k) < suc l → (k < l → j ≡ k) → (if b then 0 else suc j) ≡ (if b then 0 else suc k)
short_by true j k l less same = refl
short_by false j k l less same = ap suc (same (omega (arith, less)))

-- where not all frames are whole, further frames aren't
pub short : (out : Out) (xs ys : List (List ℕ)) (n : ℕ) → whole_frames out xs n < length xs → whole_frames out (xs ++ ys) n ≡ whole_frames out xs n
short out [] ys n less = absurd (omega (arith, less))
short out (x ∷ xs) ys n less = short_by (nat_lt n (length (framed out x))) _ _ (length xs) less (λ fewer. short out xs ys _ fewer)

-- a count of 64 bits, in two steps
adds_up : (c d a b : ℕ) → d ≡ min (c + a) (2 ^ 64 - 1) → saturated (c + (a + b)) ≡ saturated (d + b)
adds_up c d a b is = omega (arith, is)

-- all frames of a batch are whole
pub counts_all : (out : Out) (bs : List Batched) (i all left rest whole count more : ℕ) (b : Batched) → i < length bs → b ≡ get_or bs i b
    → saturated all ≡ saturated (count + whole_frames out (frames_in (drop i bs)) left)
    → length b.frames ≤ whole → whole ≤ length b.frames → (whole ≡ length b.frames → left ≡ length (framed_text out b.frames) + rest)
    → more ≡ min (count + whole) (2 ^ 64 - 1)
    → saturated all ≡ saturated (more + whole_frames out (frames_in (drop (i + 1) bs)) rest)
counts_all out bs i all left rest whole count more b within is so least most left_is more_is =
    let others = frames_in (drop (i + 1) bs) in
    let size : whole ≡ length b.frames = omega (arith, least, most) in
    so
    ∙ ap (λ fs. saturated (count + whole_frames out fs left)) (frames_next i bs b b within is)
    ∙ ap (λ n. saturated (count + whole_frames out (b.frames ++ others) n)) (left_is size)
    ∙ ap (λ n. saturated (count + n)) (whole_laws.joined out b.frames others rest)
    ∙ adds_up count more (length b.frames) (whole_frames out others rest) (more_is ∙ ap (λ n. min (count + n) (2 ^ 64 - 1)) size)

-- a frame of a batch isn't whole
pub counts_some : (out : Out) (bs : List Batched) (i all left whole count more : ℕ) (b : Batched) → i < length bs → b ≡ get_or bs i b
    → saturated all ≡ saturated (count + whole_frames out (frames_in (drop i bs)) left)
    → whole ≡ whole_frames out b.frames left → whole < length b.frames → more ≡ min (count + whole) (2 ^ 64 - 1)
    → more ≡ saturated all
counts_some out bs i all left whole count more b within is so whole_is less more_is =
    let others = frames_in (drop (i + 1) bs) in
    more_is
    ∙ ap (λ n. saturated (count + n)) (whole_is ∙ sym (short out b.frames others left (omega (arith, whole_is, less))))
    ∙ ap (λ fs. saturated (count + whole_frames out fs left)) (sym (frames_next i bs b b within is))
    ∙ sym so

-- no batch is left
pub counts_none : (out : Out) (bs : List Batched) (i all left count : ℕ) → length bs ≤ i → count < 2 ^ 64
    → saturated all ≡ saturated (count + whole_frames out (frames_in (drop i bs)) left) → count ≡ saturated all
counts_none out bs i all left count end fits so =
    let last : saturated all ≡ saturated (count + 0) = so ∙ ap (λ fs. saturated (count + whole_frames out fs left)) (frames_none i bs end) in
    omega (arith, last, fits)

pub sizes_none : (bs : List Batched) (i all count : ℕ) → length bs ≤ i → count < 2 ^ 64
    → saturated all ≡ saturated (count + length (frames_in (drop i bs))) → count ≡ saturated all
sizes_none bs i all count end fits so =
    let last : saturated all ≡ saturated (count + 0) = so ∙ ap (λ fs. saturated (count + length fs)) (frames_none i bs end) in
    omega (arith, last, fits)
