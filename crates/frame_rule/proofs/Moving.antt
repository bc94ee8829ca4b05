-- What is cut off, given back and handed out keeps totals, and shares data.
use Rattle.std.specs.Option.{is_some}
use Rattle.std.proofs.Common.{Bool, true, false, not, Result, Ok, Err, IfOk, IsErr, OnErr, ◌≡◌, ℕ, zero, suc, ◌-◌, ◌≤◌, List, [], ◌∷◌, ◌++◌, Option, Some, None, length, take, slice_get, refl, ap, sym, subst, ◌∙◌, append_assoc, append-nil, arith, inl, inr, length-drop, if◌then◌else◌}
use Rattle.storage.specs.declared.release.NoOwner.{NoOwner}
use Rattle.storage.specs.declared.back.Back.{Back}
use Rattle.storage.specs.Back.{stakes_in}
use Rattle.buffer_model.specs.Share.{Share, IsManaged, wrapped}
use Rattle.buffer_model.specs.Segment.{Segment, bytes_of, whole_window}
use Rattle.buffer_model.specs.Stake.{Stake, Keeps, KeepsTotals, KeepsTotalsBeside}
use Rattle.buffer_model.specs.Minted.{Numbers, NumbersOn}
use Rattle.buffer_model.proofs.Totals.{keeps_same, keeps_equal, keeps_then, keeps_any, keeps_beside_then, keeps-append, keeps_wrapped_in, keeps_wrapped_out, total-append, one_way-append, one_way-front, one_way-back}
use Rattle.iobuf_chain.specs.Accounts.{answered, held_by}
use Rattle.iobuf_chain.specs.Copies.{HasStorage, WithData, CopiesNoData, IsHeavy, IsStout, IsShareable}
use Rattle.iobuf_chain.specs.Trims.{trimmed_front, trimmed_back}
use Rattle.iobuf_chain.proofs.Accounts.{held_by-append}
use Rattle.iobuf_chain.proofs.Copied.{each_append, each_before, each_behind, each_map, own_storages, storage_of_same, heavy_is_stout}
use Rattle.frame_rule.specs.declared.haul.Haul.{Haul}
use Rattle.frame_rule.specs.declared.unit.FrameUnit.{FrameUnit}
use Rattle.frame_rule.specs.declared.unit.FrameUnit.TheVariants.{Frame, Fault}
use Rattle.frame_rule.specs.Units.{nodes_in}
use Rattle.frame_rule.specs.Hauls.{Begins, CutsShare, GivesUp, Moves, SameHaul, SharesData, hauled, stakes_back}

pub nodes_in-append : (us vs : List FrameUnit) → nodes_in (us ++ vs) ≡ nodes_in us ++ nodes_in vs
nodes_in-append [] vs = refl
nodes_in-append (Frame at chain ∷ us) vs = ap (λ ns. chain ++ ns) (nodes_in-append us vs) ∙ sym (append_assoc chain (nodes_in us) (nodes_in vs))
nodes_in-append (Fault at kind ∷ us) vs = nodes_in-append us vs

stakes_back-append : (rs ss : List (List (Back NoOwner))) → stakes_back (rs ++ ss) ≡ stakes_back rs ++ stakes_back ss
stakes_back-append [] ss = refl
stakes_back-append (r ∷ rs) ss = ap (λ w. stakes_in r ++ w) (stakes_back-append rs ss) ∙ sym (append_assoc (stakes_in r) (stakes_back rs) (stakes_back ss))

-- what a haul of these parts has
abbrev pub parts_hauled : List FrameUnit → List (List (Back NoOwner)) → List (Stake NoOwner)
parts_hauled us bs = held_by (nodes_in us) ++ stakes_back bs

pub hauled_as : (k : Haul) (us : List FrameUnit) (bs : List (List (Back NoOwner))) → k.units.items ≡ us → k.back.items ≡ bs → hauled k ≡ parts_hauled us bs
hauled_as k us bs u b = ap (λ w. parts_hauled w k.back.items) u ∙ ap (λ w. parts_hauled us w) b

pub same_hauled : (h k : Haul) → SameHaul h k → hauled k ≡ hauled h
same_hauled h k same = hauled_as k h.units.items h.back.items same.0 same.1

pub begins_same : {X : Type 0} (xs ys : List X) → ys ≡ xs → Begins xs ys
begins_same xs ys e = record { added = []; longer_is = e ∙ sym (append-nil xs) }

pub begins_where : {X : Type 0} (b : Bool) (xs ys : List X) (x : X) → ys ≡ (if b then xs ++ x ∷ [] else xs) → Begins xs ys
begins_where true xs ys x e = record { added = x ∷ []; longer_is = e }
begins_where false xs ys x e = begins_same xs ys e

pub begins_further : {X : Type 0} (xs ys zs : List X) → Begins xs ys → Begins ys zs → Begins xs zs
begins_further xs ys zs p q = record { added = p.added ++ q.added; longer_is = q.longer_is ∙ ap (λ w. w ++ q.added) p.longer_is ∙ append_assoc xs p.added q.added }

pub numbers_same : (m n : Numbers) → n ≡ m → NumbersOn m n
numbers_same m n e = let P : Numbers → Type 0 = λ w. NumbersOn m w in subst P (sym e) ((λ k t is. is), omega arith)

pub numbers_further : (a b c : Numbers) → NumbersOn a b → NumbersOn b c → NumbersOn a c
numbers_further a b c p q = ((λ n t is. q.0 n t (p.0 n t is)), omega (arith, p.1, q.1))

-- a part in front comes behind the first of three, or behind the second
pub behind_first : (x u w : List (Stake NoOwner)) → KeepsTotals (x ++ (u ++ w)) ((u ++ x) ++ w)
behind_first x u w n = record {
  total = let a = total-append n x (u ++ w) in let b = total-append n u w in let c = total-append n (u ++ x) w in let d = total-append n u x in omega (arith, a, b, c, d);
  way = λ kind is.
      let back = one_way-back n kind x (u ++ w) is in
      one_way-append n kind (u ++ x) w (one_way-append n kind u x (one_way-front n kind u w back) (one_way-front n kind x (u ++ w) is)) (one_way-back n kind u w back);
}

beside_first : (u v w : List (Stake NoOwner)) → KeepsTotals v w → KeepsTotals (u ++ v) (u ++ w)
beside_first u v w keeps n = keeps-append n u v u w (keeps_same u n) (keeps n)

swapped : (x b : List (Stake NoOwner)) → KeepsTotals (x ++ b) (b ++ x)
swapped x b =
    keeps_then _ _ _ (keeps_equal _ _ (ap (λ w. x ++ w) (sym (append-nil b))))
    (keeps_then _ _ _ (behind_first x b []) (keeps_equal _ _ (append-nil (b ++ x))))

behind_second : (x u b : List (Stake NoOwner)) → KeepsTotals (x ++ (u ++ b)) (u ++ (b ++ x))
behind_second x u b =
    keeps_then _ _ _ (behind_first x u b)
    (keeps_then _ _ _ (keeps_equal _ _ (append_assoc u x b)) (beside_first u (x ++ b) (b ++ x) (swapped x b)))

-- what nodes hand back comes behind all that was handed back before
pub returned_hauled : (h k : Haul) (r : List (Back NoOwner)) → k.units.items ≡ h.units.items → k.back.items ≡ h.back.items ++ r ∷ [] → KeepsTotals (stakes_in r ++ hauled h) (hauled k)
returned_hauled h k r u b =
    let us : List (Stake NoOwner) = held_by (nodes_in h.units.items) in
    keeps_then _ _ _ (behind_second (stakes_in r) us (stakes_back h.back.items))
    (keeps_equal _ _ (ap (λ w. us ++ (stakes_back h.back.items ++ w)) (sym (append-nil (stakes_in r)))
    ∙ ap (λ w. us ++ w) (sym (stakes_back-append h.back.items (r ∷ []))) ∙ sym (hauled_as k h.units.items (h.back.items ++ r ∷ []) u b)))

-- a frame comes behind all units before
pub framed_hauled : (h k : Haul) (at : ℕ) (frame : List (Segment NoOwner)) → k.units.items ≡ h.units.items ++ Frame at frame ∷ [] → k.back.items ≡ h.back.items → KeepsTotals (held_by frame ++ hauled h) (hauled k)
framed_hauled h k at frame u b =
    let us : List (Segment NoOwner) = nodes_in h.units.items in
    let rest : List (Stake NoOwner) = stakes_back h.back.items in
    let nodes : nodes_in (h.units.items ++ Frame at frame ∷ []) ≡ us ++ frame = nodes_in-append h.units.items (Frame at frame ∷ []) ∙ ap (λ w. us ++ w) (append-nil frame) in
    keeps_then _ _ _ (behind_first (held_by frame) (held_by us) rest)
    (keeps_equal _ _ (ap (λ w. w ++ rest) (sym (held_by-append us frame) ∙ ap held_by (sym nodes)) ∙ sym (hauled_as k (h.units.items ++ Frame at frame ∷ []) h.back.items u b)))

-- a fault has nothing of a storage
pub fault_hauled : (h k : Haul) (u : FrameUnit) → nodes_in (u ∷ []) ≡ [] → k.units.items ≡ h.units.items ++ u ∷ [] → k.back.items ≡ h.back.items → hauled k ≡ hauled h
fault_hauled h k u none us b =
    hauled_as k (h.units.items ++ u ∷ []) h.back.items us b
    ∙ ap (λ w. held_by w ++ stakes_back h.back.items) (nodes_in-append h.units.items (u ∷ []) ∙ ap (λ w. nodes_in h.units.items ++ w) none ∙ append-nil (nodes_in h.units.items))

-- nodes that were cut off went into the haul as something that has as much of each storage
moved : (a b : Numbers) (before after front : List (Segment NoOwner)) (x : List (Stake NoOwner)) (h k : List (Stake NoOwner))
    → KeepsTotalsBeside a b (held_by before) (held_by (after ++ front)) → KeepsTotals (held_by front) x → KeepsTotals (x ++ h) k
    → KeepsTotalsBeside a b (held_by before ++ h) (held_by after ++ k)
moved a b before after front x h k cut given taken n lt =
    let apart : held_by (after ++ front) ++ h ≡ held_by after ++ (held_by front ++ h) = ap (λ w. w ++ h) (held_by-append after front) ∙ append_assoc (held_by after) (held_by front) h in
    let first : Keeps (held_by before ++ h) (held_by (after ++ front) ++ h) n = keeps-append n (held_by before) h (held_by (after ++ front)) h (cut n lt) (keeps_same h n) in
    let beside : KeepsTotals (held_by front ++ h) (x ++ h) = λ i. keeps-append i (held_by front) h x h (given i) (keeps_same h i) in
    let second : KeepsTotals (held_by (after ++ front) ++ h) (held_by after ++ k) =
    keeps_then _ _ _ (keeps_equal _ _ apart) (beside_first (held_by after) (held_by front ++ h) k (keeps_then _ _ _ beside taken)) in record {
      total = (second n).total ∙ first.total;
      way = λ kind is. (second n).way kind (first.way kind is);
    }

-- nothing was cut off
pub moves_none : (m n : Numbers) (before after : List (Segment NoOwner)) (h k : Haul) → KeepsTotalsBeside m n (held_by before) (held_by (after ++ [])) → NumbersOn m n → SameHaul h k → Moves m n before after h k
moves_none m n before after h k keeps numbers same = record {
  totals = moved m n before after [] [] (hauled h) (hauled k) keeps (keeps_same []) (keeps_equal _ _ (sym (same_hauled h k same)));
  mint = numbers;
  back = begins_same h.back.items k.back.items same.1;
}

pub moves_still : (m n : Numbers) (nodes after : List (Segment NoOwner)) (h k : Haul) → n ≡ m → after ≡ nodes → SameHaul h k → Moves m n nodes after h k
moves_still m n nodes after h k number stay same =
    moves_none m n nodes after h k (λ i lt. keeps_equal (held_by nodes) (held_by (after ++ [])) (ap held_by (sym (append-nil nodes) ∙ ap (λ w. w ++ []) (sym stay))) i) (numbers_same m n number) same

-- what was cut off is given back
pub moves_back : (m n : Numbers) (before after front : List (Segment NoOwner)) (h k : Haul) (r : List (Back NoOwner)) → KeepsTotalsBeside m n (held_by before) (held_by (after ++ front)) → NumbersOn m n → KeepsTotals (held_by front) (stakes_in r)
    → k.units.items ≡ h.units.items → k.back.items ≡ h.back.items ++ r ∷ [] → Moves m n before after h k
moves_back m n before after front h k r keeps numbers given u b = record {
  totals = moved m n before after front (stakes_in r) (hauled h) (hauled k) keeps given (returned_hauled h k r u b);
  mint = numbers;
  back = record { added = r ∷ []; longer_is = b };
}

-- what was cut off is a frame
pub moves_frame : (m n : Numbers) (before after front frame : List (Segment NoOwner)) (h k : Haul) (at : ℕ) → KeepsTotalsBeside m n (held_by before) (held_by (after ++ front)) → NumbersOn m n → KeepsTotals (held_by front) (held_by frame)
    → k.units.items ≡ h.units.items ++ Frame at frame ∷ [] → k.back.items ≡ h.back.items → Moves m n before after h k
moves_frame m n before after front frame h k at keeps numbers given u b = record {
  totals = moved m n before after front (held_by frame) (hauled h) (hauled k) keeps given (framed_hauled h k at frame u b);
  mint = numbers;
  back = begins_same h.back.items k.back.items b;
}

-- one part after another
pub moves_further : (a b c : Numbers) (x y z : List (Segment NoOwner)) (h k l : Haul) → Moves a b x y h k → Moves b c y z k l → Moves a c x z h l
moves_further a b c x y z h k l p q = record {
  totals = keeps_beside_then a b c _ _ _ p.mint q.mint p.totals q.totals;
  mint = numbers_further a b c p.mint q.mint;
  back = begins_further h.back.items k.back.items l.back.items p.back q.back;
}

-- from a haul of the same units and returns
pub moves_from : (a b : Numbers) (x y : List (Segment NoOwner)) (h k l : Haul) → SameHaul h k → Moves a b x y k l → Moves a b x y h l
moves_from a b x y h k l same p = moves_further a a b x x y h k l (moves_still a a x x h k refl refl same) p

-- a haul that gains nothing of a storage, and nothing that was handed back
pub moves_on : (a b : Numbers) (x y : List (Segment NoOwner)) (h k l : Haul) → Moves a b x y h k → hauled l ≡ hauled k → l.back.items ≡ k.back.items → Moves a b x y h l
moves_on a b x y h k l p same back = record {
  totals = let P : List (Stake NoOwner) → Type 0 = λ w. KeepsTotalsBeside a b (held_by x ++ hauled h) (held_by y ++ w) in subst P (sym same) p.totals;
  mint = p.mint;
  back = begins_further h.back.items k.back.items l.back.items p.back (begins_same k.back.items l.back.items back);
}

-- a fault comes behind all units before
pub moves_fault : (a b : Numbers) (x y : List (Segment NoOwner)) (h k l : Haul) (u : FrameUnit) → Moves a b x y h k → nodes_in (u ∷ []) ≡ []
    → l.units.items ≡ k.units.items ++ u ∷ [] → l.back.items ≡ k.back.items → Moves a b x y h l
moves_fault a b x y h k l u p none us back = moves_on a b x y h k l p (fault_hauled k l u none us back) back

-- a chain without a storage has nothing of one
pub gives_up_nothing : (s : Segment NoOwner) (nodes : List (Segment NoOwner)) (h k : Haul) → nodes ≡ s ∷ [] → s.share.number ≡ None → SameHaul h k → GivesUp nodes h k
gives_up_nothing s nodes h k is none same = record {
  units = same.0;
  back = begins_same h.back.items k.back.items same.1;
  totals = λ n.
      let P : List (Segment NoOwner) → Type 0 = λ w. Keeps (held_by w ++ hauled h) (hauled h) n in
      let Q : List (Stake NoOwner) → Type 0 = λ w. Keeps (held_by nodes ++ hauled h) w n in
      subst Q (sym (same_hauled h k same)) (subst P (sym is) (keeps-append n (held_by (s ∷ [])) (hauled h) [] (hauled h) (keeps_wrapped_out s.share none n) (keeps_same (hauled h) n)));
}

pub gives_up_back : (nodes : List (Segment NoOwner)) (h k : Haul) (r : List (Back NoOwner)) → KeepsTotals (held_by nodes) (stakes_in r) → k.units.items ≡ h.units.items → k.back.items ≡ h.back.items ++ r ∷ [] → GivesUp nodes h k
gives_up_back nodes h k r given u b = record {
  units = u;
  back = record { added = r ∷ []; longer_is = b };
  totals = λ n. (keeps_then _ _ _ (λ i. keeps-append i (held_by nodes) (hauled h) (stakes_in r) (hauled h) (given i) (keeps_same (hauled h) i)) (returned_hauled h k r u b)) n;
}

-- a storage of nodes with data, of which each has one that was there, was there
storage_there : (k : Share NoOwner) (had has : List (Segment NoOwner)) → HasStorage k has → CopiesNoData had has → HasStorage k had
storage_there k had [] is copies = absurd is
storage_there k had (s ∷ ss) (inl is) copies = storage_of_same k s.share had (sym is.1.0, sym is.1.1) (copies.0 is.0)
storage_there k had (s ∷ ss) (inr is) copies = storage_there k had ss is copies.1

pub copies_further : (xs ys zs : List (Segment NoOwner)) → CopiesNoData xs ys → CopiesNoData ys zs → CopiesNoData xs zs
copies_further xs ys zs p q = each_map _ _ zs (λ s is some. storage_there s.share xs ys (is some) p) q

-- what holds of the shares of nodes with data still holds where bytes leave
with_front : (P : Share NoOwner → Type 0) (n : ℕ) (ss : List (Segment NoOwner)) → WithData (λ s. P s.share) ss → WithData (λ s. P s.share) (trimmed_front n ss)
with_front P n [] is = tt
with_front P n (s ∷ ss) is = ((λ some. is.0 (let size = length-drop n s.window in omega (arith, some, size))), with_front P (n - length s.window) ss is.1)

length_take : (n : ℕ) (xs : List ℕ) → length (take n xs) ≤ length xs
length_take zero xs = omega arith
length_take (suc n) [] = omega arith
length_take (suc n) (x ∷ xs) = let more = length_take n xs in omega (arith, more)

with_back : (P : Share NoOwner → Type 0) (n : ℕ) (ss : List (Segment NoOwner)) → WithData (λ s. P s.share) ss → WithData (λ s. P s.share) (trimmed_back n ss)
with_back P n [] is = tt
with_back P n (s ∷ ss) is =
    ((λ some. is.0 (let m : ℕ = length s.window - (n - length (bytes_of ss)) in let size = length_take m s.window in omega (arith, some, size))), with_back P n ss is.1)

abbrev is_stout : Share NoOwner → Type 0
is_stout sh = IsManaged sh × (1024 ≤ sh.weight)

abbrev has_storage : List (Segment NoOwner) → Share NoOwner → Type 0
has_storage had sh = HasStorage sh had

-- a cut that goes as a whole: nothing stays but a node without data
pub cuts_whole : (had front rest : List (Segment NoOwner)) → WithData IsHeavy had → front ≡ had → rest ≡ whole_window [] wrapped ∷ [] → CutsShare had front rest
cuts_whole had front rest heavy all none =
    let F : List (Segment NoOwner) → Type 0 = λ w. CopiesNoData had w × WithData IsStout w in
    let R : List (Segment NoOwner) → Type 0 = λ w. CopiesNoData had w × WithData IsHeavy w in
    let f : F front = subst F (sym all) (own_storages had, each_map _ _ had (λ s is some. heavy_is_stout s (is some)) heavy) in
    let r : R rest = subst R (sym none) (((λ some. absurd (omega (arith, some))), tt), ((λ some. absurd (omega (arith, some))), tt)) in
    record { front_copies = f.0; rest_copies = r.0; stout = f.1; heavy = r.1 }

pub heavy_shareable : (nodes : List (Segment NoOwner)) → WithData IsHeavy nodes → WithData IsShareable nodes
heavy_shareable nodes heavy = each_map _ _ nodes (λ s is some. (let weight = (is some).1 in omega (arith, weight))) heavy

-- nothing was cut off
pub shares_still : (nodes : List (Segment NoOwner)) (us vs : List FrameUnit) → WithData IsHeavy nodes → vs ≡ us → SharesData nodes nodes us vs
shares_still nodes us vs heavy same = record {
  added = [];
  haul = same ∙ sym (append-nil us);
  copies = let P : List (Segment NoOwner) → Type 0 = λ w. CopiesNoData nodes w in subst P (sym (append-nil nodes)) (own_storages nodes);
  heavy = heavy;
  stout = tt;
}

-- what was cut off is given back
pub shares_back : (had front rest : List (Segment NoOwner)) (us vs : List FrameUnit) → CutsShare had front rest → vs ≡ us → SharesData had rest us vs
shares_back had front rest us vs cut same = record {
  added = [];
  haul = same ∙ sym (append-nil us);
  copies = let P : List (Segment NoOwner) → Type 0 = λ w. CopiesNoData had w in subst P (sym (append-nil rest)) cut.rest_copies;
  heavy = cut.heavy;
  stout = tt;
}

-- and a fault is added
pub shares_fault : (had rest : List (Segment NoOwner)) (us vs ws : List FrameUnit) (u : FrameUnit) → SharesData had rest vs vs → vs ≡ us → nodes_in (u ∷ []) ≡ [] → ws ≡ vs ++ u ∷ [] → SharesData had rest us ws
shares_fault had rest us vs ws u shares same none more = record {
  added = u ∷ [];
  haul = more ∙ ap (λ w. w ++ u ∷ []) same;
  copies =
      let P : List (Segment NoOwner) → Type 0 = λ w. CopiesNoData had (rest ++ w) in
      subst P (sym none) (let Q : List (Segment NoOwner) → Type 0 = λ w. CopiesNoData had w in subst Q (sym (append-nil rest)) (each_before _ rest (nodes_in shares.added) shares.copies));
  heavy = shares.heavy;
  stout = let P : List (Segment NoOwner) → Type 0 = λ w. WithData IsStout w in subst P (sym none) tt;
}

-- what was cut off is a frame, without its edges
pub shares_frame : (had front rest : List (Segment NoOwner)) (us vs : List FrameUnit) (at m n : ℕ) → CutsShare had front rest → vs ≡ us ++ Frame at (trimmed_front m (trimmed_back n front)) ∷ [] → SharesData had rest us vs
shares_frame had front rest us vs at m n cut more =
    let frame : List (Segment NoOwner) = trimmed_front m (trimmed_back n front) in record {
      added = Frame at frame ∷ [];
      haul = more;
      copies = each_append _ rest (frame ++ []) cut.rest_copies
          (each_append _ frame [] (with_front (has_storage had) m (trimmed_back n front) (with_back (has_storage had) n front cut.front_copies)) tt);
      heavy = cut.heavy;
      stout = each_append _ frame [] (with_front is_stout m (trimmed_back n front) (with_back is_stout n front cut.stout)) tt;
    }

-- one part after another
pub shares_further : (a b c : List (Segment NoOwner)) (us vs ws : List FrameUnit) → SharesData a b us vs → SharesData b c vs ws → SharesData a c us ws
shares_further a b c us vs ws p q =
    let ps : List (Segment NoOwner) = nodes_in p.added in
    let qs : List (Segment NoOwner) = nodes_in q.added in
    let mid = each_before _ b ps p.copies in
    let far = copies_further a b (c ++ qs) mid q.copies in
    let nodes : nodes_in (p.added ++ q.added) ≡ ps ++ qs = nodes_in-append p.added q.added in
    let P : List (Segment NoOwner) → Type 0 = λ w. CopiesNoData a (c ++ w) in
    let Q : List (Segment NoOwner) → Type 0 = λ w. WithData IsStout w in record {
      added = p.added ++ q.added;
      haul = q.haul ∙ ap (λ w. w ++ q.added) p.haul ∙ append_assoc us p.added q.added;
      copies = subst P (sym nodes) (each_append _ c (ps ++ qs) (each_before _ c qs far) (each_append _ ps qs (each_behind _ b ps p.copies) (each_behind _ c qs far)));
      heavy = q.heavy;
      stout = subst Q (sym nodes) (each_append _ ps qs p.stout q.stout);
    }

pub one_node : {X : Type 0} (xs : List X) (x : X) (n : ℕ) → n ≡ length xs → n ≡ 1 → slice_get xs 0 ≡ Some x → xs ≡ x ∷ []
one_node [] x n size one is = absurd (omega (arith, size, one))
one_node (y ∷ []) x n size one is = let same : y ≡ x = cc in ap (λ w. w ∷ []) same
one_node (y ∷ z ∷ zs) x n size one is = absurd (omega (arith, size, one))

pub on_err : {A E P : Type 0} (r : Result A E) → P → OnErr r P
on_err (Ok a) p = tt
on_err (Err e) p = p

pub none_of : (o p : Option ℕ) (b : Bool) → is_some o ≡ not b → o ≡ p → b ≡ true → p ≡ None
none_of None p b is same holds = sym same
none_of (Some n) p true is same holds = absurd (cc is)
none_of (Some n) p false is same holds = absurd (cc holds)

-- a node without a storage has nothing of one
pub beside_nothing : (a b : Numbers) (nodes none : List (Segment NoOwner)) → none ≡ whole_window [] wrapped ∷ [] → KeepsTotalsBeside a b (held_by nodes) (held_by (nodes ++ none))
beside_nothing a b nodes none is n lt =
    let P : List (Segment NoOwner) → Type 0 = λ w. Keeps (held_by nodes) (held_by (nodes ++ w)) n in
    let apart : held_by nodes ++ held_by (whole_window [] wrapped ∷ []) ≡ held_by (nodes ++ whole_window [] wrapped ∷ []) = sym (held_by-append nodes (whole_window [] wrapped ∷ [])) in
    let more : KeepsTotals (held_by nodes) (held_by nodes ++ held_by (whole_window [] wrapped ∷ [])) =
    keeps_then _ _ _ (keeps_equal _ _ (sym (append-nil (held_by nodes)))) (beside_first (held_by nodes) [] _ (keeps_wrapped_in wrapped [] [] refl (keeps_same []))) in
    subst P (sym is) (keeps_then _ _ _ more (keeps_equal _ _ apart) n)

-- no bytes are cut off: all nodes stay, and one without data leaves
pub cuts_none : (had none : List (Segment NoOwner)) → WithData IsHeavy had → none ≡ whole_window [] wrapped ∷ [] → CutsShare had none had
cuts_none had none heavy is =
    let F : List (Segment NoOwner) → Type 0 = λ w. CopiesNoData had w × WithData IsStout w in
    let f : F none = subst F (sym is) (((λ some. absurd (omega (arith, some))), tt), ((λ some. absurd (omega (arith, some))), tt)) in
    record { front_copies = f.0; rest_copies = own_storages had; stout = f.1; heavy = heavy }

-- totals are kept, and then all of them
pub keeps_later : (a b : Numbers) (xs ys zs : List (Stake NoOwner)) → KeepsTotalsBeside a b xs ys → KeepsTotals ys zs → KeepsTotalsBeside a b xs zs
keeps_later a b xs ys zs p q n lt = record { total = (q n).total ∙ (p n lt).total; way = λ kind is. (q n).way kind ((p n lt).way kind is) }

-- first nodes leave a chain, and then the next ones
pub cut_twice : (from by to : Numbers) (old mid now first next : List (Segment NoOwner)) → NumbersOn from by → NumbersOn by to
    → KeepsTotalsBeside from by (held_by old) (held_by (mid ++ first)) → KeepsTotalsBeside by to (held_by mid) (held_by (now ++ next))
    → KeepsTotalsBeside from to (held_by old) (held_by ((now ++ first) ++ next))
cut_twice from by to old mid now first next before after p q =
    let a : List (Stake NoOwner) = held_by first in
    let b : List (Stake NoOwner) = held_by next in
    let u : List (Stake NoOwner) = held_by now in
    let part : KeepsTotalsBeside by to (held_by (mid ++ first)) ((u ++ b) ++ a) = λ n lt.
    let K : List (Stake NoOwner) → Type 0 = λ w. Keeps w ((u ++ b) ++ a) n in
    let L : List (Stake NoOwner) → Type 0 = λ w. Keeps (held_by mid) w n in
    subst K (sym (held_by-append mid first)) (keeps-append n (held_by mid) a (u ++ b) a (subst L (held_by-append now next) (q n lt)) (keeps_same a n)) in
    let turned : KeepsTotals ((u ++ b) ++ a) (held_by ((now ++ first) ++ next)) =
    keeps_then _ _ _ (keeps_equal _ _ (append_assoc u b a))
    (keeps_then _ _ _ (beside_first u (b ++ a) (a ++ b) (swapped b a))
    (keeps_equal _ _ (sym (append_assoc u a b) ∙ ap (λ w. w ++ b) (sym (held_by-append now first)) ∙ sym (held_by-append (now ++ first) next)))) in
    keeps_beside_then from by to _ _ _ before after p (keeps_later by to _ _ _ part turned)

-- nodes that left, as what hands them back
pub gone_back : (m n : Numbers) (old after gone : List (Segment NoOwner)) (h k : Haul) (r : List (Back NoOwner)) → KeepsTotalsBeside m n (held_by old) (held_by (after ++ gone)) → KeepsTotals (held_by gone) (stakes_in r)
    → k.units.items ≡ h.units.items → k.back.items ≡ h.back.items ++ r ∷ [] → KeepsTotalsBeside m n (held_by old ++ hauled h) (held_by after ++ hauled k)
gone_back m n old after gone h k r keeps given u b = moved m n old after gone (stakes_in r) (hauled h) (hauled k) keeps given (returned_hauled h k r u b)

-- what a haul has stays beside what was cut
pub cut_beside : (a b : Numbers) (old now : List (Segment NoOwner)) (h k : Haul) → KeepsTotalsBeside a b (held_by old) (held_by now) → SameHaul h k → KeepsTotalsBeside a b (held_by old ++ hauled h) (held_by now ++ hauled k)
cut_beside a b old now h k keeps same n lt = keeps-append n (held_by old) (hauled h) (held_by now) (hauled k) (keeps n lt) (keeps_equal _ _ (sym (same_hauled h k same)) n)

-- the two parts of a chain that was cut further: no data was copied
pub cuts_further : (had mid rest front next : List (Segment NoOwner)) → CutsShare had front mid → CutsShare mid next rest → CutsShare had front rest
cuts_further had mid rest front next p q = record {
  front_copies = p.front_copies;
  rest_copies = copies_further had mid rest p.rest_copies q.rest_copies;
  stout = p.stout;
  heavy = q.heavy;
}

-- the same where the first part is given up
pub cuts_later : (had mid frame rest : List (Segment NoOwner)) → CopiesNoData had mid → CutsShare mid frame rest → CutsShare had frame rest
cuts_later had mid frame rest p q = record {
  front_copies = copies_further had mid frame p q.front_copies;
  rest_copies = copies_further had mid rest p q.rest_copies;
  stout = q.stout;
  heavy = q.heavy;
}

-- a frame that was cut comes behind all units before
pub moves_cut : (m n : Numbers) (before after frame : List (Segment NoOwner)) (g h k l : Haul) (at : ℕ) → SameHaul g h
    → KeepsTotalsBeside m n (held_by before ++ hauled h) (held_by (after ++ frame) ++ hauled k) → NumbersOn m n → Begins h.back.items k.back.items
    → l.units.items ≡ k.units.items ++ Frame at frame ∷ [] → l.back.items ≡ k.back.items → Moves m n before after g l
moves_cut m n before after frame g h k l at same keeps numbers back u b = record {
  totals =
      let apart : held_by (after ++ frame) ++ hauled k ≡ held_by after ++ (held_by frame ++ hauled k) = ap (λ w. w ++ hauled k) (held_by-append after frame) ∙ append_assoc (held_by after) (held_by frame) (hauled k) in
      let P : List (Stake NoOwner) → Type 0 = λ w. KeepsTotalsBeside m n (held_by before ++ w) (held_by after ++ hauled l) in
      let on : KeepsTotals (held_by (after ++ frame) ++ hauled k) (held_by after ++ hauled l) =
      keeps_then _ _ _ (keeps_equal _ _ apart) (beside_first (held_by after) (held_by frame ++ hauled k) (hauled l) (framed_hauled k l at frame u b)) in
      subst P (same_hauled g h same) (keeps_later m n _ _ _ keeps on);
  mint = numbers;
  back = begins_further g.back.items k.back.items l.back.items (let Q : List (List (Back NoOwner)) → Type 0 = λ w. Begins w k.back.items in subst Q same.1 back) (begins_same k.back.items l.back.items b);
}

pub shares_cut : (had frame rest : List (Segment NoOwner)) (us vs : List FrameUnit) (at : ℕ) → CutsShare had frame rest → vs ≡ us ++ Frame at frame ∷ [] → SharesData had rest us vs
shares_cut had frame rest us vs at cut more = record {
  added = Frame at frame ∷ [];
  haul = more;
  copies = each_append _ rest (frame ++ []) cut.rest_copies (each_append _ frame [] cut.front_copies tt);
  heavy = cut.heavy;
  stout = each_append _ frame [] cut.stout tt;
}

-- a refused call answers no nodes
pub refused_totals : {E : Type 0} (a b : Numbers) (xs k : List (Stake NoOwner)) (nodes : List (Segment NoOwner)) (r : Result (List (Segment NoOwner)) E) → IsErr r
    → KeepsTotalsBeside a b xs (held_by nodes ++ k) → KeepsTotalsBeside a b xs (held_by (nodes ++ answered r) ++ k)
refused_totals a b xs k nodes (Ok some) err keeps = absurd (let never : false ≡ true = err in cc never)
refused_totals a b xs k nodes (Err e) err keeps = let P : List (Segment NoOwner) → Type 0 = λ w. KeepsTotalsBeside a b xs (held_by w ++ k) in subst P (sym (append-nil nodes)) keeps

pub if_ok : {A E : Type 0} (P Q : A → Type 0) (r : Result A E) → IfOk r P → ((a : A) → P a → Q a) → IfOk r Q
if_ok P Q (Ok a) p f = f a p
if_ok P Q (Err e) p f = tt

-- a cut that was refused
pub moves_refused : (m n : Numbers) (before after : List (Segment NoOwner)) (g h k : Haul) → SameHaul g h → KeepsTotalsBeside m n (held_by before ++ hauled h) (held_by (after ++ []) ++ hauled k)
    → NumbersOn m n → Begins h.back.items k.back.items → Moves m n before after g k
moves_refused m n before after g h k same keeps numbers back = record {
  totals =
      let P : List (Segment NoOwner) → Type 0 = λ w. KeepsTotalsBeside m n (held_by before ++ hauled g) (held_by w ++ hauled k) in
      let Q : List (Stake NoOwner) → Type 0 = λ w. KeepsTotalsBeside m n (held_by before ++ w) (held_by (after ++ []) ++ hauled k) in
      subst P (append-nil after) (subst Q (same_hauled g h same) keeps);
  mint = numbers;
  back = let R : List (List (Back NoOwner)) → Type 0 = λ w. Begins w k.back.items in subst R same.1 back;
}
