mod Files
mod FolderInsides
mod Insides
