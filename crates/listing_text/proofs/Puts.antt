-- Texts put one after the other.
use Rattle.std.proofs.Common.{◌≡◌, ℕ, List, [], ◌++◌, refl, sym, ap, ◌∙◌}
use Rattle.listing_text.specs.Buffer.{buffer, put_all, text_in, text_length}
use Rattle.listing_text.specs.Puts.{Puts}
use Rattle.listing_text.specs.declared.writer.Writer.{Writer}
use Rattle.listing_text.proofs.Fill.{put-append, fill_length, fill_bytes}

pub puts_none : (w : Writer) → Puts [] w w
unfolding put_all
puts_none w = record { same = refl; puts = refl }

-- a text, then another
pub puts_then : {s t : List ℕ} {a b c : Writer} → Puts s a b → Puts t b c → Puts (s ++ t) a c
puts_then {s} {t} {a} {b} {c} p q = record {
  same = q.same ∙ p.same;
  puts = q.puts ∙ ap (put_all t) p.puts ∙ sym (put-append s t (buffer a.out.now a.at));
}

-- a writer that began with nothing written: the buffer as filled from its first byte on
pub puts_length : {t : List ℕ} {a b : Writer} → Puts t a b → a.at ≡ 0 → b.at ≡ text_length t a.out.now
puts_length {t} {a} {b} p z = fill_length t a.out.now b.out.now b.at (p.puts ∙ ap (λ (n : ℕ). put_all t (buffer a.out.now n)) z)

pub puts_bytes : {t : List ℕ} {a b : Writer} → Puts t a b → a.at ≡ 0 → b.out.now ≡ text_in t a.out.now
puts_bytes {t} {a} {b} p z = fill_bytes t a.out.now b.out.now b.at (p.puts ∙ ap (λ (n : ℕ). put_all t (buffer a.out.now n)) z)

-- that is this text
pub puts_as : {s t : List ℕ} {a b : Writer} → s ≡ t → Puts s a b → Puts t a b
puts_as e p = rw (← e) p
