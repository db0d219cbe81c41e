-- What callers' contracts say of a book.
pub use Rattle.keep_book.specs.Armed
