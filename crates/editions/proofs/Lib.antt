-- Laws of what is printed for a file.
mod Files
