-- The text is what was read to the front of the buffer.
use Rattle.std.proofs.Common.{◌≡◌, ℕ, ◌≤◌, List, [], ◌++◌, length, take, drop, ap, ◌∙◌, arith, rules, length-take-le}
use Rattle.std.proofs.lemmas.List.{append-nil, drop_all, take_all}
use Rattle.replay.specs.declared.text.TheConstants.{TEXT}
use Rattle.replay.specs.Texts.{numbers_in}
use Rattle.replay.proofs.text.read_to_vec.Goals as goal

-- a front is no longer than the list
front_fits : (n : ℕ) (b : List ℕ) → n ≤ length b → length b ≡ TEXT → length (take n b) ≤ TEXT
front_fits n b h e = let long : length (take n b) ≡ n = length-take-le n b h in omega arith

-- a list that was written from end to end is what was written
whole_front : (n : ℕ) (b l : List ℕ) → length b ≡ n → length l ≡ n → take n (b ++ drop (length b) l) ≡ b
whole_front n b l e f =
    let d : drop (length b) l ≡ [] = drop_all (length b) l (omega arith) in
    rw (d, append-nil) (take_all n b (omega arith))

pub returns-in_err-whole : goal.returns-in_err-whole
returns-in_err-whole g c =
    let r = c.read_full-count in
    let full : length r.new.buffer ≡ TEXT = omega (arith, r.auto.buffer, c.deref_mut.ensures.len, c.in_ok-text.ensures.len) in
    (take r.result.count r.new.buffer, front_fits _ _ r.ensures.in_bounds full, r.ensures.bytes, search rules)

pub returns-in_err-numbers : goal.returns-in_err-numbers
returns-in_err-numbers g c =
    let r = c.read_full-count in
    let full : length r.new.buffer ≡ TEXT = omega (arith, r.auto.buffer, c.deref_mut.ensures.len, c.in_ok-text.ensures.len) in
    (take r.result.count r.new.buffer, front_fits _ _ r.ensures.in_bounds full, r.ensures.bytes, search rules)

pub returns : goal.returns
returns g c =
    let r = c.read_full-count in
    let n = r.result.count in
    let full : length r.new.buffer ≡ TEXT = omega (arith, r.auto.buffer, c.deref_mut.ensures.len, c.in_ok-text.ensures.len) in
    let long : length (take n r.new.buffer) ≡ n = length-take-le _ _ r.ensures.in_bounds in
    let kept : take c.in_ok-text.text.len (r.new.buffer ++ drop (length r.new.buffer) c.in_ok-text.text.items) ≡ r.new.buffer =
    whole_front _ _ _ (omega (arith, r.auto.buffer, c.deref_mut.ensures.len)) (omega (arith, ap length c.deref_mut.ensures.value)) in
    let numbers : c.in_ok-numbers.field-0.items ≡ numbers_in (take n r.new.buffer) = c.in_ok-numbers.ensures ∙ ap (λ b. numbers_in (take n b)) (c.deref.ensures.value ∙ kept) in
    let end = rw c.in_ok-whole.was at r.ensures.end in
    (take n r.new.buffer, front_fits _ _ r.ensures.in_bounds full, r.ensures.bytes, (numbers, λ h. end (omega (arith, h, long, full))))
