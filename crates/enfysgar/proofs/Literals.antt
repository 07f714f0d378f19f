-- What a float's literal is, by its bits: the calls of one number of service (d) answer 0.0 beside a refusal, where their contracts say +0.
pub use Rattle.std.specs.Float.Ieee.{of_bits}
