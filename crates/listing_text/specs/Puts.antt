-- What a writer's methods do: they put a text after what is written, into the same buffer.
use Rattle.std.specs.Prelude.{◌≡◌, ℕ, List}
use Rattle.listing_text.specs.Buffer.{buffer, put_all}
use Rattle.listing_text.specs.declared.writer.Writer.{Writer}

pub record Puts (text : List ℕ) (before after : Writer) : Type 0 where
  -- the buffer is the one that was lent
  pub same : after.out.ghost_name ≡ before.out.ghost_name
  -- and the text is in it, as far as it goes
  pub puts : buffer after.out.now after.at ≡ put_all text (buffer before.out.now before.at)
